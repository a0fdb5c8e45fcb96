-- What a cell shows while work on it is alone.
use Rattle.std.specs.Prelude.{ℕ, ◌≡◌, ◌≢◌, true, false}
use Rattle.ds_eval.specs.declared.inputs.Entry as entries
use Rattle.ds_layout.specs.declared.place.Place.TheVariants as place
use Rattle.ds_state.specs.EntryWords.{value_for, word_for}
use Rattle.ds_state.specs.Works.{PlainWorkCall}
use Rattle.ds_state.specs.World.{PlainWorld}
use Rattle.ds_state.specs.declared.work.WorkEnd.{WorkEnd}
use Rattle.ds_state.specs.declared.work.WorkEnd.TheVariants.{NotDirty, Missed, Worn, Published, Again, NoMemory}
use Rattle.ds_state.specs.declared.work.WorkStage.{WorkStage}
use Rattle.ds_state.specs.declared.work.WorkStage.TheVariants.{LoadMark, Claim, FlushClaim, BackClaim, LoadHead, LoadHeader, LoadText, Read, LoadValue, LoadKind, LoadOwnValue, LoadOwnKind, Wait, StoreValue, StoreKind, FlushValue, FlushKind, BackValue, BackKind, Telling, Clear, ClearDirty, Give, GiveDirty, FlushCleared, BackCleared, Answer}

-- the two words that say what a cell shows
pub record CellWords : Type 0 where
  pub value : ℕ
  pub kind : ℕ

-- the value and the kind of the cell with this number, as processes see them
abbrev pub shown_in : PlainWorld → ℕ → CellWords
shown_in w cell = record { value = w.memory.cached (place.Value cell); kind = w.memory.cached (place.Kind cell) }

-- the value and the kind that the work loaded of its own cell
abbrev pub noted_by : PlainWorkCall → CellWords
noted_by e = record { value = e.value; kind = e.kind }

-- the value and the kind that an entry is stored with
abbrev pub words_for : entries.Entry → CellWords
words_for entry = record { value = value_for entry; kind = word_for entry }

-- what the cell shows when work on it ends so: what it showed before, but where the work published another value; that
-- it also did where it marked its own cell
abbrev pub EndsShowing : CellWords → CellWords → WorkEnd → Type 0
EndsShowing before now NotDirty = now ≡ before
EndsShowing before now Missed = now ≡ before
EndsShowing before now Worn = now ≡ before
EndsShowing before now (Published true) = now ≢ before
EndsShowing before now (Published false) = now ≡ before
EndsShowing before now Again = now ≢ before
EndsShowing before now NoMemory = now ≡ before

-- the work has noted what the cell showed before, and the cell shows this now
abbrev pub HasNoted : CellWords → PlainWorkCall → CellWords → CellWords → Type 0
HasNoted before e now shown = (noted_by e ≡ before) × (now ≡ shown)

-- what the cell shows at each stage of work that is alone: what it showed before, up to the stores of its value and its
-- kind; then the words of the work's entry
abbrev pub ShowsAt : CellWords → CellWords → PlainWorkCall → WorkStage → Type 0
ShowsAt before now e LoadMark = now ≡ before
ShowsAt before now e Claim = now ≡ before
ShowsAt before now e FlushClaim = now ≡ before
ShowsAt before now e BackClaim = now ≡ before
ShowsAt before now e LoadHead = now ≡ before
ShowsAt before now e LoadHeader = now ≡ before
ShowsAt before now e (LoadText part) = now ≡ before
ShowsAt before now e Read = now ≡ before
ShowsAt before now e (LoadValue i) = now ≡ before
ShowsAt before now e (LoadKind i value) = now ≡ before
ShowsAt before now e LoadOwnValue = now ≡ before
ShowsAt before now e LoadOwnKind = (now ≡ before) × (e.value ≡ before.value)
ShowsAt before now e Wait = HasNoted before e now before
ShowsAt before now e StoreValue = HasNoted before e now before
ShowsAt before now e StoreKind = HasNoted before e now (record { value = value_for e.entry; kind = before.kind })
ShowsAt before now e FlushValue = HasNoted before e now (words_for e.entry)
ShowsAt before now e FlushKind = HasNoted before e now (words_for e.entry)
ShowsAt before now e BackValue = HasNoted before e now (words_for e.entry)
ShowsAt before now e BackKind = HasNoted before e now (words_for e.entry)
ShowsAt before now e (Telling spread) = HasNoted before e now (words_for e.entry)
ShowsAt before now e (Clear true) = HasNoted before e now (words_for e.entry)
ShowsAt before now e (Clear false) = now ≡ before
ShowsAt before now e ClearDirty = now ≢ before
ShowsAt before now e Give = now ≡ before
ShowsAt before now e GiveDirty = now ≡ before
ShowsAt before now e (FlushCleared end) = EndsShowing before now end
ShowsAt before now e (BackCleared end) = EndsShowing before now end
ShowsAt before now e (Answer end) = EndsShowing before now end
