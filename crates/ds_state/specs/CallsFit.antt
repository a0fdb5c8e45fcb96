-- What each process knows, and what its buffer holds.
use Rattle.std.specs.Prelude.{ℕ, ◌≡◌, ◌<◌, ◌≤◌, ◌-◌, List, [], ◌∷◌, length, map, Option, Some, None, Contains, slice_index_or, suc}
use Rattle.std.specs.List.{range_with_len}
use Rattle.ds_words.specs.declared.access.BufferEntry.{BufferEntry}
use Rattle.ds_formula.specs.Cells.{index_of}
use Rattle.ds_formula.specs.declared.cells.Cell.{Cell}
use Rattle.ds_formula.specs.declared.cells.Shape.{Shape}
use Rattle.ds_formula.specs.Plain.{PlainContent}
use Rattle.ds_formula.specs.Refs.{Refers}
use Rattle.ds_formula.specs.Grammar.{Reads}
use Rattle.ds_layout.specs.declared.place.TheConstants.{RECORDS}
use Rattle.ds_formula.specs.Limits.{TEXT_MOST}
use Rattle.ds_layout.specs.declared.place.Place.{Place}
use Rattle.ds_layout.specs.declared.place.Place.TheVariants as place
use Rattle.ds_layout.specs.declared.layout.Layout.{Layout}
use Rattle.ds_layout.specs.Places.{cells_of}
use Rattle.ds_layout.specs.Head.{head_word}
use Rattle.ds_layout.specs.Bits.{HasBit, IsSubset}
use Rattle.ds_state.specs.Edits.{PlainEditCall, IsEdit, text_parts}
use Rattle.ds_state.specs.World.{PlainEdit, PlainIssue, edit_of, PlainWorld, record_place, record_word, index_place, done_place, of_cell, IsHeadBy, last_announcement}
use Rattle.ds_state.specs.Known.{Standing, outside, inside, safe, Announced, last, pending, ended, word_of, AreBelow, StandsAs, IsRecorded, known_at, Knowing}
use Rattle.ds_state.specs.Owing.{entry, IsMark, HoldsNone}
use Rattle.ds_state.specs.declared.stage.Outcome.TheVariants.{Done, Overtaken}
use Rattle.ds_state.specs.KnownWork.{IsAtRest, WorkFits}
use Rattle.ds_state.specs.KnownShow.{ShowFits}
use Rattle.ds_state.specs.Works.{PlainRecoverCall, PlainMigrateCall, IsMigration, new_text}
use Rattle.ds_state.specs.declared.migration.MigrateStage.{MigrateStage}
use Rattle.ds_state.specs.declared.migration.MigrateStage.TheVariants.{BackNew, BackVersion}
use Rattle.ds_state.specs.RecoverStages.{IsRecovery}
use Rattle.ds_state.specs.KnownRecovery.{FreedFits, freed_at, ResolvedFits, resolved_at, RecoveryHolds, recovery_held}
use Rattle.ds_state.specs.declared.stage.Stage.{Stage}
use Rattle.ds_state.specs.declared.stage.Stage.TheVariants.{FlushText, BackRecord, BackPending, BackIndex, BackNoted, BackDone, BackOwn, BackMark, BackOutcome}
use Rattle.ds_state.specs.declared.situation.Situation.{Situation}
use Rattle.ds_state.specs.declared.situation.Situation.TheVariants.{Idle, Stopped, Editing, Working, Recovering, Showing, Migrating}
use Rattle.ds_layout.specs.declared.place.Edition.{Edition}
use Rattle.ds_layout.specs.declared.place.Edition.TheVariants.{First}
use Rattle.ds_state.specs.declared.situation.Rest.{Rest}

-- what an edit's buffer holds: nothing; n words of its record from this one on; its announcement; bits of the
-- row of a reference, its cell's among them; done bits, this edit's among them; a head of its cell, this one or a
-- later one; its cell's mark
pub data Held : Type 0 where
  empty : Held
  record_words : ℕ → ℕ → Held
  announcing_word : Announced → Held
  row_bits : ℕ → Held
  done_bits : ℕ → ℕ → Held
  head_from : ℕ → Held
  mark : Held

-- what the buffer of an edit holds at a stage: with that number of parts of its text and these references
abbrev pub held_at : ℕ → List ℕ → Stage → Held
held_at parts refs (FlushText part) = record_words 0 (suc part)
held_at parts refs (BackRecord left) = record_words (parts - left) (suc left)
held_at parts refs BackPending = announcing_word pending
held_at parts refs (BackIndex i) = row_bits (slice_index_or refs i 0)
held_at parts refs (BackNoted head) = head_from (head_word head)
held_at parts refs (BackDone head) = done_bits head.process head.number
held_at parts refs (BackOwn own) = head_from own
held_at parts refs (BackMark own) = mark
held_at parts refs (BackOutcome how) = announcing_word (ended how)
held_at parts refs _ = empty

-- the buffer's entry of one word of the edit's record, by the number of that word
abbrev pub record_entry : Edition → PlainEdit → ℕ → BufferEntry Place
record_entry edition e k = entry (record_place edition e.process e.number k) (record_word e k)

-- the process's buffer holds one entry alone: of the word at this place, with a value of which `Is` holds
pub record HasOne (w : PlainWorld) (p : ℕ) (r : Place) (Is : ℕ → Type 0) : Type 0 where
  pub value : ℕ
  pub alone : w.memory.buffer p ≡ entry r value ∷ []
  pub is : Is value

-- the value's bits are bits of the word's cached side, and the bit of the number is among them
pub record IsBits (w : PlainWorld) (r : Place) (number value : ℕ) : Type 0 where
  pub has : HasBit value number
  pub subset : IsSubset value (w.memory.cached r)

-- the value is a head that a linearized edit gave the cell: no older than `least`
pub record IsHeadFrom (w : PlainWorld) (cell least value : ℕ) : Type 0 where
  pub enough : least ≤ value
  pub by : PlainEdit
  pub head : IsHeadBy (of_cell cell w.counted) value by

-- the buffer of the edit's process holds just what `Held` says
abbrev pub Holds : PlainWorld → Edition → PlainEdit → Held → Type 0
Holds w edition e empty = w.memory.buffer e.process ≡ []
Holds w edition e (record_words first count) = w.memory.buffer e.process ≡ map (record_entry edition e) (range_with_len first count)
Holds w edition e (announcing_word a) = w.memory.buffer e.process ≡ entry (place.Announce e.process) (word_of w e a) ∷ []
Holds w edition e (row_bits row) = HasOne w e.process (index_place row e.cell) (IsBits w (index_place row e.cell) e.cell)
Holds w edition e (done_bits process number) = HasOne w e.process (done_place process number) (IsBits w (done_place process number) number)
Holds w edition e (head_from least) = HasOne w e.process (place.Head e.cell) (IsHeadFrom w e.cell least)
Holds w edition e mark = HasOne w e.process (place.Mark e.cell) (λ value. (value ≤ w.memory.cached (place.Mark e.cell)) × IsMark w.layout e.cell value)

-- the sheet has as many cells and processes as the edit says
pub record IsSheetOf (layout : Layout) (e : PlainEditCall) : Type 0 where
  pub cells : cells_of layout ≡ e.cells
  pub processes : layout.processes ≡ e.processes

-- each cell that the text refers to is one of the references
pub record HasRefs (shape : Shape) (text refs : List ℕ) : Type 0 where
  pub content : PlainContent
  pub reads : Reads shape text content
  pub all : (c : Cell) → Refers content c → Contains refs (index_of shape c)

-- an edit of the sheet, which is open, knows what its stage says, and its buffer holds that
pub record EditFits (w : PlainWorld) (p : ℕ) (e : PlainEditCall) : Type 0 where
  pub mine : e.process ≡ p
  pub is : IsEdit e
  pub sheet : IsSheetOf w.layout e
  pub refs : HasRefs w.layout.shape e.text e.refs
  pub since : ℕ
  pub open_edits : w.open_edits p ≡ Some (record { edit = edit_of e; since = since })
  pub issued : since ≤ length w.counted
  pub holds_none : HoldsNone w e.process
  pub knows : Knowing w e.edition (edit_of e) e.refs since (known_at (text_parts e.text) (length e.refs) e.stage)
  pub buffer : Holds w e.edition (edit_of e) (held_at (text_parts e.text) e.refs e.stage)

-- an idle process has no edit that is not answered, nothing in its buffer, and announces how its last edit ended
pub record IdleFits (w : PlainWorld) (p : ℕ) (next : Rest) : Type 0 where
  pub number : next.number ≤ RECORDS
  pub holds_none : HoldsNone w p
  pub open_edits : w.open_edits p ≡ None
  pub buffer : w.memory.buffer p ≡ []
  pub below : AreBelow w p next.number
  pub cached : w.memory.cached (place.Announce p) ≡ last_announcement w.counted p next.number
  pub persisted : w.memory.persisted (place.Announce p) ≡ last_announcement w.counted p next.number

-- what an edit in doubt may announce, on either side: how the one before it ended, where it is not linearized; that it
-- is pending; how it ended, where that is settled
abbrev pub MaySay : Standing → Announced → Type 0
MaySay outside last = Unit {0}
MaySay outside pending = Unit {0}
MaySay outside (ended (Overtaken noted seen)) = Unit {0}
MaySay (inside own) pending = Unit {0}
MaySay safe pending = Unit {0}
MaySay safe (ended Done) = Unit {0}
MaySay _ _ = ⊥

-- the order of what an edit in doubt may announce: how the one before it ended, that it is pending, how it ended
abbrev pub rank : Announced → ℕ
rank last = 0
rank pending = 1
rank (ended how) = 2

-- where an edit has announced itself, the header of its record stands on both sides
abbrev pub IsWritten : PlainWorld → PlainEdit → Announced → Type 0
IsWritten w e last = Unit {0}
IsWritten w e _ = IsRecorded w First e 1 1

-- an edit in doubt: how it stands in the list, what each side of its announcement says, and its header
pub record IsInDoubt (w : PlainWorld) (p : ℕ) (issue : PlainIssue) : Type 0 where
  pub mine : issue.edit.process ≡ p
  pub number : issue.edit.number < RECORDS
  pub cell : issue.edit.cell < cells_of w.layout
  pub text : length issue.edit.text ≤ TEXT_MOST
  pub standing : Standing
  pub stands : StandsAs w issue.edit standing
  pub before : Announced
  pub now : Announced
  pub cached : w.memory.cached (place.Announce p) ≡ word_of w issue.edit now
  pub persisted : w.memory.persisted (place.Announce p) ≡ word_of w issue.edit before
  pub said : MaySay standing now
  pub said_before : MaySay standing before
  pub order : rank before ≤ rank now
  pub written : IsWritten w issue.edit now

-- a stopped process without an open edit announces how its last one ended
pub record IsThrough (w : PlainWorld) (p : ℕ) : Type 0 where
  pub next : ℕ
  pub rest : IsAtRest w p next

-- what holds of a stopped process: its open edit is in doubt, or it has none and announces how its last one ended
abbrev pub DoubtFits : PlainWorld → ℕ → Option PlainIssue → Type 0
DoubtFits w p None = IsThrough w p
DoubtFits w p (Some issue) = IsInDoubt w p issue

-- a stopped process has an empty buffer; its edit, where it has one, is in doubt
pub record StoppedFits (w : PlainWorld) (p : ℕ) : Type 0 where
  pub buffer : w.memory.buffer p ≡ []
  pub doubt : DoubtFits w p (w.open_edits p)

-- a recovery: its edit is in doubt throughout; it gives its cells back, then it settles that edit
pub record RecoveryFits (w : PlainWorld) (p : ℕ) (e : PlainRecoverCall) : Type 0 where
  pub mine : e.process ≡ p
  pub is : IsRecovery e
  pub cells : cells_of w.layout ≡ e.cells
  pub processes : w.layout.processes ≡ e.processes
  pub doubt : DoubtFits w p (w.open_edits p)
  pub freed : FreedFits w e.process e.mark (freed_at e.stage)
  pub resolved : ResolvedFits w e.process e.announcement e.cell (resolved_at e.stage)
  pub buffer : RecoveryHolds w e.process e.announcement e.cell (recovery_held e.cell e.stage)

-- what a migration's buffer holds at a stage: the word that it copies, or the version's
abbrev pub MigrationHolds : PlainWorld → ℕ → PlainMigrateCall → MigrateStage → Type 0
MigrationHolds w p e (BackNew at) = w.memory.buffer p ≡ entry (new_text at) e.word ∷ []
MigrationHolds w p e (BackVersion how) = w.memory.buffer p ≡ entry place.Version 1 ∷ []
MigrationHolds w p e _ = w.memory.buffer p ≡ []

-- a migration: its process's edit is in doubt throughout
pub record MigrationFits (w : PlainWorld) (p : ℕ) (e : PlainMigrateCall) : Type 0 where
  pub mine : e.process ≡ p
  pub is : IsMigration e
  pub processes : w.layout.processes ≡ e.processes
  pub doubt : DoubtFits w p (w.open_edits p)
  pub buffer : MigrationHolds w p e e.stage

-- the situation of the process fits the world
abbrev pub CallFits : PlainWorld → ℕ → Situation → Type 0
CallFits w p (Idle next) = IdleFits w p next
CallFits w p Stopped = StoppedFits w p
CallFits w p (Editing e) = EditFits w p e
CallFits w p (Working e) = WorkFits w p e
CallFits w p (Recovering e) = RecoveryFits w p e
CallFits w p (Showing e) = ShowFits w p e
CallFits w p (Migrating e) = MigrationFits w p e
