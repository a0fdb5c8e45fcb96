-- Work that is alone: what it sees of its cell's mark, and what the cell shows. `row` has the words of its cell's index
-- row.
use Rattle.std.specs.Prelude.{ℕ, ◌≡◌, ◌<◌, ◌≤◌, ◌+◌, ◌⊎◌, length, slice_index_or, true, false}
use Rattle.ds_layout.specs.Bits.{HasBit, part_with, parts_for}
use Rattle.ds_layout.specs.declared.place.Place.TheVariants as place
use Rattle.ds_layout.specs.declared.mark.State.TheVariants.{Marked}
use Rattle.ds_state.specs.Works.{PlainWorkCall, SEEN_MOST}
use Rattle.ds_state.specs.World.{PlainWorld}
use Rattle.ds_layout.specs.Mark.{IsClean, generation_of, dirtied}
use Rattle.ds_state.specs.declared.spread.Spread.{Spread}
use Rattle.ds_state.specs.declared.spread.Spread.TheVariants.{LoadRow, OrTold, FlushTold, BackTold}
use Rattle.ds_state.specs.declared.work.WorkEnd.{WorkEnd}
use Rattle.ds_state.specs.declared.work.WorkEnd.TheVariants.{NotDirty, Missed, Worn, Published, Again, NoMemory}
use Rattle.ds_state.specs.declared.work.WorkStage.{WorkStage}
use Rattle.ds_state.specs.declared.work.WorkStage.TheVariants.{LoadMark, Claim, FlushClaim, BackClaim, LoadHead, LoadHeader, LoadText, Read, LoadValue, LoadKind, LoadOwnValue, LoadOwnKind, Wait, StoreValue, StoreKind, FlushValue, FlushKind, BackValue, BackKind, Telling, Clear, ClearDirty, Give, GiveDirty, FlushCleared, BackCleared, Answer}
use Rattle.ds_state.specs.declared.situation.Situation.TheVariants.{Idle, Working}
use Rattle.ds_state.specs.declared.turn.Turn.{Turn}
use Rattle.ds_state.specs.declared.turn.Turn.TheVariants as does
use Rattle.ds_work.specs.WorkAnswers.{mark_now, state_now}
use Rattle.ds_work.specs.WorkShows.{CellWords, shown_in, EndsShowing, ShowsAt}
use Rattle.ds_work.specs.WorkSteps.{rest_of}

-- the work's cell is marked, and its mark has generations left
pub record IsMarkedAt (w : PlainWorld) (e : PlainWorkCall) : Type 0 where
  pub marked : state_now w e ≡ Marked
  pub young : generation_of (mark_now w e) ≤ SEEN_MOST

-- the work's cell stands in its own index row: its text refers to it, or did
abbrev pub RefersToItself : (ℕ → ℕ) → PlainWorkCall → Type 0
RefersToItself row e = HasBit (row (part_with e.cell)) e.cell

-- how work that is alone may end: with its value published and its cell clean, where the value is no other one or the
-- cell does not stand in its own index row; with the cell dirty, where it stands there; or where an allocation fails
abbrev pub EndsAlone : (ℕ → ℕ) → PlainWorld → PlainWorkCall → WorkEnd → Type 0
EndsAlone row w e NotDirty = ⊥
EndsAlone row w e Missed = ⊥
EndsAlone row w e Worn = ⊥
EndsAlone row w e (Published true) = IsClean (mark_now w e) × (RefersToItself row e → ⊥)
EndsAlone row w e (Published false) = IsClean (mark_now w e)
EndsAlone row w e Again = RefersToItself row e
EndsAlone row w e NoMemory = Unit {0}

-- the cells below this one are marked: the mark of the work's own cell is the one that it noted, and where the cell
-- stands in its own row, it is not below; or it stands there, and is marked
abbrev pub IsToldTo : (ℕ → ℕ) → PlainWorld → PlainWorkCall → ℕ → Type 0
IsToldTo row w e d = ((mark_now w e ≡ e.mark) × (RefersToItself row e → d ≤ e.cell)) ⊎ ((mark_now w e ≡ dirtied e.mark) × RefersToItself row e)

-- all cells are marked: the work's own cell is marked where it stands in its own row, and only there
abbrev pub IsTold : (ℕ → ℕ) → PlainWorld → PlainWorkCall → Type 0
IsTold row w e = ((mark_now w e ≡ e.mark) × (RefersToItself row e → ⊥)) ⊎ ((mark_now w e ≡ dirtied e.mark) × RefersToItself row e)

-- the words of the index row that the work has loaded are those of `row`
abbrev pub IsRow : (ℕ → ℕ) → PlainWorkCall → Type 0
IsRow row e = (part : ℕ) → part < length e.row → slice_index_or e.row part 0 ≡ row part

-- the work has loaded each part of the index row
abbrev pub IsWholeRow : (ℕ → ℕ) → PlainWorkCall → Type 0
IsWholeRow row e = (part : ℕ) → part < parts_for e.cells → slice_index_or e.row part 0 ≡ row part

-- what work that is alone sees of its cell's mark while it marks others, and what it has loaded of the index row
abbrev pub TellsAlone : (ℕ → ℕ) → PlainWorld → PlainWorkCall → Spread → Type 0
TellsAlone row w e (LoadRow part) = (mark_now w e ≡ e.mark) × IsRow row e
TellsAlone row w e (OrTold d) = IsToldTo row w e d × IsWholeRow row e
TellsAlone row w e (FlushTold d) = IsToldTo row w e (d + 1) × IsWholeRow row e
TellsAlone row w e (BackTold d) = IsToldTo row w e (d + 1) × IsWholeRow row e

-- what work that is alone sees of its cell's mark at each stage
abbrev pub IsAloneAt : (ℕ → ℕ) → PlainWorld → PlainWorkCall → WorkStage → Type 0
IsAloneAt row w e LoadMark = IsMarkedAt w e
IsAloneAt row w e Claim = mark_now w e ≡ e.mark
IsAloneAt row w e FlushClaim = mark_now w e ≡ e.mark
IsAloneAt row w e BackClaim = mark_now w e ≡ e.mark
IsAloneAt row w e LoadHead = mark_now w e ≡ e.mark
IsAloneAt row w e LoadHeader = mark_now w e ≡ e.mark
IsAloneAt row w e (LoadText part) = mark_now w e ≡ e.mark
IsAloneAt row w e Read = mark_now w e ≡ e.mark
IsAloneAt row w e (LoadValue i) = mark_now w e ≡ e.mark
IsAloneAt row w e (LoadKind i value) = mark_now w e ≡ e.mark
IsAloneAt row w e LoadOwnValue = mark_now w e ≡ e.mark
IsAloneAt row w e LoadOwnKind = mark_now w e ≡ e.mark
IsAloneAt row w e Wait = mark_now w e ≡ e.mark
IsAloneAt row w e StoreValue = mark_now w e ≡ e.mark
IsAloneAt row w e StoreKind = mark_now w e ≡ e.mark
IsAloneAt row w e FlushValue = mark_now w e ≡ e.mark
IsAloneAt row w e FlushKind = mark_now w e ≡ e.mark
IsAloneAt row w e BackValue = mark_now w e ≡ e.mark
IsAloneAt row w e BackKind = mark_now w e ≡ e.mark
IsAloneAt row w e (Telling spread) = TellsAlone row w e spread
IsAloneAt row w e (Clear true) = IsTold row w e
IsAloneAt row w e (Clear false) = mark_now w e ≡ e.mark
IsAloneAt row w e ClearDirty = RefersToItself row e
IsAloneAt row w e Give = mark_now w e ≡ e.mark
IsAloneAt row w e GiveDirty = ⊥
IsAloneAt row w e (FlushCleared end) = EndsAlone row w e end
IsAloneAt row w e (BackCleared end) = EndsAlone row w e end
IsAloneAt row w e (Answer end) = EndsAlone row w e end

-- work that is alone, at its own stage, in a world where its cell's index row has these words, on a cell that showed
-- these before
pub record IsAlone (row : ℕ → ℕ) (before : CellWords) (w : PlainWorld) (e : PlainWorkCall) : Type 0 where
  pub at : IsAloneAt row w e e.stage
  pub shows : ShowsAt before (shown_in w e.cell) e e.stage
  pub index : (part : ℕ) → w.memory.cached (place.Index e.cell part) ≡ row part

-- what a turn of work that is alone leaves: it goes on alone, or it has ended so and its process is idle
abbrev pub GoesAlone : (ℕ → ℕ) → CellWords → PlainWorkCall → PlainWorld → Turn WorkEnd → Type 0
GoesAlone row before e w does.GoesOn = (f : PlainWorkCall) × (f.cell ≡ e.cell) × (f.process ≡ e.process) × (w.situation e.process ≡ Working f) × IsAlone row before w f
GoesAlone row before e w (does.Answers end) = (w.situation e.process ≡ Idle (rest_of e)) × EndsAlone row w e end × EndsShowing before (shown_in w e.cell) end
