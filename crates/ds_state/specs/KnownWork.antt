-- What work knows at each of its stages, and what its buffer holds.
use Rattle.std.specs.Prelude.{ℕ, ◌≡◌, ◌<◌, ◌≤◌, ◌⊎◌, List, [], ◌∷◌, length, take, Bool, true, false, None}
use Rattle.ds_words.specs.declared.access.BufferEntry.{BufferEntry}
use Rattle.ds_formula.specs.Cells.{IsInside, index_of}
use Rattle.ds_formula.specs.declared.cells.Cell.{Cell}
use Rattle.ds_formula.specs.Plain.{PlainContent}
use Rattle.ds_formula.specs.Refs.{Refers}
use Rattle.ds_eval.specs.declared.inputs.Input.{Input}
use Rattle.ds_eval.specs.Inputs.{entry_in, cell_in, entry_at, IsAscending}
use Rattle.ds_eval.specs.Local.{local}
use Rattle.ds_layout.specs.TextWords.{start_of}
use Rattle.ds_layout.specs.declared.place.TheConstants.{RECORDS}
use Rattle.ds_layout.specs.declared.place.Place.{Place}
use Rattle.ds_layout.specs.declared.place.Place.TheVariants as place
use Rattle.ds_layout.specs.Places.{cells_of}
use Rattle.ds_state.specs.Works.{PlainWorkCall, StageFits, SEEN_MOST}
use Rattle.ds_state.specs.World.{PlainEdit, PlainWorld, of_cell, IsHeadBy, last_announcement}
use Rattle.ds_state.specs.Known.{AreBelow}
use Rattle.ds_state.specs.Owing.{entry, CellOwes, IsExcused, IsIndexed, IsMark, HoldsNone}
use Rattle.ds_layout.specs.Mark.{tenure, IsEven, IsHeldBy, generation_of, dirtied}
use Rattle.ds_state.specs.Standing.{HasContent, cached_side, entry_on, value_for, word_for}
use Rattle.ds_state.specs.declared.work.WorkStage.{WorkStage}
use Rattle.ds_state.specs.declared.work.WorkStage.TheVariants.{LoadMark, Claim, FlushClaim, BackClaim, LoadHead, LoadHeader, LoadText, Read, LoadValue, LoadKind, LoadOwnValue, LoadOwnKind, Wait, StoreValue, StoreKind, FlushValue, FlushKind, BackValue, BackKind, Telling, Clear, ClearDirty, Give, GiveDirty, FlushCleared, BackCleared, Answer}
use Rattle.ds_state.specs.declared.spread.Spread.TheVariants.{BackTold}

-- how a work holds its cell: not at all; it saw the mark, which nobody held; on the cached side; on both sides
pub data Hold : Type 0 where
  free : Hold
  seen : Hold
  claimed : Hold
  held : Hold
  -- it holds the cell on both sides, and has seen that the mark came to be dirty
  outrun : Hold

-- what a work has loaded: nothing; the head; that number of parts of the text; all of it; the content; the entries of
-- the first n references, and the value of one more
pub data Loaded : Type 0 where
  nothing : Loaded
  the_head : Loaded
  some_text : ℕ → Loaded
  whole_text : Loaded
  the_content : Loaded
  some_inputs : ℕ → Loaded
  one_value : ℕ → ℕ → Loaded

-- what a work knows of its cell's value and kind: nothing; what it loaded; what it stored; what is written back
pub data Own : Type 0 where
  unseen : Own
  value_seen : Own
  both_seen : Own
  value_stored : Own
  both_stored : Own
  value_back : Own
  settled : Own

-- what a work knows: how it holds its cell, what it has loaded, the cell's value and kind, whether it is evaluated
pub record WorkKnown : Type 0 where
  pub hold : Hold
  pub loaded : Loaded
  pub own : Own
  pub evaluated : Bool

-- what a work knows at a stage that needs no loaded word: only how it holds its cell
abbrev pub before : Hold → WorkKnown
before hold = record { hold = hold; loaded = nothing; own = unseen; evaluated = false }

-- what a work knows while it loads and waits: its cell is held on both sides, and it is not evaluated
abbrev pub loading : Loaded → Own → WorkKnown
loading loaded own = record { hold = held; loaded = loaded; own = own; evaluated = false }

-- what a work knows once it is evaluated: its cell is held, and the entries of n references are loaded
abbrev pub storing : ℕ → Own → WorkKnown
storing refs own = record { hold = held; loaded = some_inputs refs; own = own; evaluated = true }

-- what a work with that number of references knows at a stage
abbrev pub work_known : ℕ → WorkStage → WorkKnown
work_known refs LoadMark = before free
work_known refs Claim = before seen
work_known refs FlushClaim = before claimed
work_known refs BackClaim = before claimed
work_known refs LoadHead = before held
work_known refs LoadHeader = loading the_head unseen
work_known refs (LoadText part) = loading (some_text part) unseen
work_known refs Read = loading whole_text unseen
work_known refs (LoadValue i) = loading (some_inputs i) unseen
work_known refs (LoadKind i value) = loading (one_value i value) unseen
work_known refs LoadOwnValue = loading (some_inputs refs) unseen
work_known refs LoadOwnKind = loading (some_inputs refs) value_seen
work_known refs Wait = loading (some_inputs refs) both_seen
work_known refs StoreValue = storing refs both_seen
work_known refs StoreKind = storing refs value_stored
work_known refs FlushValue = storing refs both_stored
work_known refs FlushKind = storing refs both_stored
work_known refs BackValue = storing refs both_stored
work_known refs BackKind = storing refs value_back
work_known refs (Telling spread) = storing refs settled
work_known refs (Clear changed) = storing refs settled
work_known refs ClearDirty = before outrun
work_known refs Give = before held
work_known refs GiveDirty = before outrun
work_known refs (FlushCleared end) = before free
work_known refs (BackCleared end) = before free
work_known refs (Answer end) = before free

-- the process holds the cell by this claim, on the cached side, and holds no other cell
pub record Claims (w : PlainWorld) (process cell mark : ℕ) : Type 0 where
  pub even : IsEven mark
  pub by : IsHeldBy process mark
  pub cached : tenure (w.memory.cached (place.Mark cell)) ≡ tenure mark
  pub alone : (r : ℕ) → IsHeldBy process (w.memory.cached (place.Mark r)) → r ≡ cell

-- the work's process holds its cell by its claim, on the cached side
abbrev pub HasClaimed : PlainWorld → PlainWorkCall → Type 0
HasClaimed w e = Claims w e.process e.cell e.mark

-- the process holds the cell by this claim, on both sides, and holds no other cell
pub record ClaimsBoth (w : PlainWorld) (process cell mark : ℕ) : Type 0 where
  pub claim : Claims w process cell mark
  pub persisted : tenure (w.memory.persisted (place.Mark cell)) ≡ tenure mark

-- the work's process holds its cell by its claim, on both sides
abbrev pub HasHeld : PlainWorld → PlainWorkCall → Type 0
HasHeld w e = ClaimsBoth w e.process e.cell e.mark

-- the work holds its cell as `Hold` says
abbrev pub HoldFits : PlainWorld → PlainWorkCall → Hold → Type 0
HoldFits w e free = HoldsNone w e.process
HoldFits w e seen = HoldsNone w e.process × (e.mark ≤ w.memory.cached (place.Mark e.cell)) × ((q : ℕ) → IsHeldBy q e.mark → ⊥) × (generation_of e.mark ≤ SEEN_MOST)
HoldFits w e claimed = HasClaimed w e
HoldFits w e held = HasHeld w e
HoldFits w e outrun = HasHeld w e × (w.memory.cached (place.Mark e.cell) ≡ dirtied e.mark)

-- `P` holds as long as this is the cell's mark
abbrev pub WhileMarked : PlainWorld → ℕ → ℕ → Type 0 → Type 0
WhileMarked w cell mark P = w.memory.cached (place.Mark cell) ≡ mark → P

-- `P` holds as long as the work's cell was not marked since its claim
abbrev pub WhileEven : PlainWorld → PlainWorkCall → Type 0 → Type 0
WhileEven w e P = WhileMarked w e.cell e.mark P

-- as long as the cell was not marked, the noted head is the cell's, or the cell is excused
abbrev pub HeadStands : PlainWorld → PlainWorkCall → Type 0
HeadStands w e = WhileEven w e ((w.memory.cached (place.Head e.cell) ≡ e.head) ⊎ IsExcused w e.cell e.mark)

-- the head is that of a linearized edit, and its text begins as noted
pub record ReadsPart (w : PlainWorld) (cell head count : ℕ) (noted : List ℕ) (parts : ℕ) : Type 0 where
  pub by : PlainEdit
  pub gave : IsHeadBy (of_cell cell w.counted) head by
  pub size : count ≡ length by.text
  pub start : noted ≡ take (start_of parts) by.text

-- the noted head was given to the work's cell by a linearized edit, and that number of parts of its text are noted
abbrev pub HasRead : PlainWorld → PlainWorkCall → ℕ → Type 0
HasRead w e parts = ReadsPart w e.cell e.head e.length e.text parts

-- the head is an edit's, whose text is noted
pub record ReadsWhole (w : PlainWorld) (cell head : ℕ) (noted : List ℕ) : Type 0 where
  pub by : PlainEdit
  pub gave : IsHeadBy (of_cell cell w.counted) head by
  pub text : noted ≡ by.text

-- the noted head was given to the work's cell by a linearized edit, and its whole text is noted
abbrev pub HasWhole : PlainWorld → PlainWorkCall → Type 0
HasWhole w e = ReadsWhole w e.cell e.head e.text

-- the noted head was given to the work's cell by a linearized edit
abbrev pub IsHeadOf : PlainWorld → PlainWorkCall → Type 0
IsHeadOf w e = (by : PlainEdit) × IsHeadBy (of_cell e.cell w.counted) e.head by

-- the number of the cell that the input at this index is of
abbrev pub row_of : PlainWorld → List Input → ℕ → ℕ
row_of w inputs j = index_of w.layout.shape (cell_in inputs j)

-- the number of the cell that the work's input at this index is of
abbrev pub input_row : PlainWorld → PlainWorkCall → ℕ → ℕ
input_row w e j = row_of w e.inputs j

-- the reference's index row has the cell, and the noted entry is what its words show, or it owes the cell a mark
pub record EntryStands (w : PlainWorld) (cell mark : ℕ) (inputs : List Input) (j : ℕ) : Type 0 where
  pub indexed : IsIndexed w (row_of w inputs j) cell
  pub stands : WhileMarked w cell mark ((entry_at inputs j ≡ entry_on w.layout (cached_side w.memory) (row_of w inputs j)) ⊎ CellOwes w (row_of w inputs j) cell mark)

-- what the work noted of its reference at this index stands
abbrev pub InputStands : PlainWorld → PlainWorkCall → ℕ → Type 0
InputStands w e j = EntryStands w e.cell e.mark e.inputs j

-- the reference's index row has the cell, and the noted value is its value, or it owes the cell a mark
pub record WordStands (w : PlainWorld) (cell mark : ℕ) (inputs : List Input) (j value : ℕ) : Type 0 where
  pub indexed : IsIndexed w (row_of w inputs j) cell
  pub stands : WhileMarked w cell mark ((value ≡ w.memory.cached (place.Value (row_of w inputs j))) ⊎ CellOwes w (row_of w inputs j) cell mark)

-- the value that the work noted of its reference at this index stands
abbrev pub ValueStands : PlainWorld → PlainWorkCall → ℕ → ℕ → Type 0
ValueStands w e j value = WordStands w e.cell e.mark e.inputs j value

-- the content is the cell's by the noted head, its references are among the inputs, and the first n stand
pub record Gathers (w : PlainWorld) (cell mark top : ℕ) (holds : PlainContent) (inputs : List Input) (count : ℕ) : Type 0 where
  pub head : WhileMarked w cell mark ((w.memory.cached (place.Head cell) ≡ top) ⊎ IsExcused w cell mark)
  pub content : HasContent w cell top holds
  pub ascending : IsAscending inputs
  pub found : (d : Cell) → Refers holds d → IsInside w.layout.shape d → (j : ℕ) × (j < length inputs) × (cell_in inputs j ≡ d)
  pub rows : (j : ℕ) → j < length inputs → IsIndexed w (row_of w inputs j) cell
  pub each : (j : ℕ) → j < count → EntryStands w cell mark inputs j

-- the work has its content, and the first n of its inputs stand
abbrev pub HasInputs : PlainWorld → PlainWorkCall → ℕ → Type 0
HasInputs w e count = Gathers w e.cell e.mark e.head e.content e.inputs count

-- what the work has loaded stands, as `Loaded` says
abbrev pub LoadedFits : PlainWorld → PlainWorkCall → Loaded → Type 0
LoadedFits w e nothing = Unit {0}
LoadedFits w e the_head = HeadStands w e × IsHeadOf w e
LoadedFits w e (some_text parts) = HeadStands w e × HasRead w e parts
LoadedFits w e whole_text = HeadStands w e × (((e.head ≡ 0) × (e.text ≡ [])) ⊎ HasWhole w e)
LoadedFits w e the_content = HasInputs w e 0
LoadedFits w e (some_inputs count) = HasInputs w e count
LoadedFits w e (one_value count value) = HasInputs w e count × ValueStands w e count value

-- the word at a place on one side
abbrev pub on : (Place → ℕ) → PlainWorkCall → Place → ℕ
on side e r = side r

-- the cached sides of value and kind of the work's cell are these two words
abbrev pub CachedAre : PlainWorld → PlainWorkCall → ℕ → ℕ → Type 0
CachedAre w e v k = (w.memory.cached (place.Value e.cell) ≡ v) × (w.memory.cached (place.Kind e.cell) ≡ k)

-- value and kind of the work's cell are as `Own` says
abbrev pub OwnFits : PlainWorld → PlainWorkCall → Own → Type 0
OwnFits w e unseen = Unit {0}
OwnFits w e value_seen = w.memory.cached (place.Value e.cell) ≡ e.value
OwnFits w e both_seen = CachedAre w e e.value e.kind
OwnFits w e value_stored = w.memory.cached (place.Value e.cell) ≡ value_for e.entry
OwnFits w e both_stored = CachedAre w e (value_for e.entry) (word_for e.entry)
OwnFits w e value_back = CachedAre w e (value_for e.entry) (word_for e.entry) × (w.memory.persisted (place.Value e.cell) ≡ value_for e.entry)
OwnFits w e settled = CachedAre w e (value_for e.entry) (word_for e.entry)
    × (w.memory.persisted (place.Value e.cell) ≡ value_for e.entry) × (w.memory.persisted (place.Kind e.cell) ≡ word_for e.entry)

-- where the work is evaluated, its entry is what its content gives of its inputs
abbrev pub EntryIs : PlainWorld → PlainWorkCall → Bool → Type 0
EntryIs w e false = Unit {0}
EntryIs w e true = e.entry ≡ local w.layout.shape e.content (entry_in e.inputs)

-- all that a work knows holds, as `WorkKnown` says
pub record WorkKnows (w : PlainWorld) (e : PlainWorkCall) (k : WorkKnown) : Type 0 where
  pub hold : HoldFits w e k.hold
  pub loaded : LoadedFits w e k.loaded
  pub own : OwnFits w e k.own
  pub evaluated : EntryIs w e k.evaluated

-- what a work's buffer holds: nothing; its claim; a mark of this cell; value, kind or both of its cell
pub data WorkHeld : Type 0 where
  empty : WorkHeld
  claim : WorkHeld
  a_mark : ℕ → WorkHeld
  the_value : WorkHeld
  both_words : WorkHeld
  the_kind : WorkHeld

-- what a work's buffer holds at a stage
abbrev pub work_held : PlainWorkCall → WorkStage → WorkHeld
work_held e BackClaim = claim
work_held e FlushKind = the_value
work_held e BackValue = both_words
work_held e BackKind = the_kind
work_held e (Telling (BackTold d)) = a_mark d
work_held e (BackCleared end) = a_mark e.cell
work_held e _ = empty

-- the process's buffer holds one entry alone, a mark of the cell, no newer than the cached one
pub record HasMark (w : PlainWorld) (p cell : ℕ) : Type 0 where
  pub value : ℕ
  pub alone : w.memory.buffer p ≡ entry (place.Mark cell) value ∷ []
  pub had : value ≤ w.memory.cached (place.Mark cell)
  pub is : IsMark w.layout cell value

-- the process's buffer holds one entry alone, a mark of the cell that is of the tenure of the claim
pub record BuffersClaim (w : PlainWorld) (process cell mark : ℕ) : Type 0 where
  pub value : ℕ
  pub alone : w.memory.buffer process ≡ entry (place.Mark cell) value ∷ []
  pub had : value ≤ w.memory.cached (place.Mark cell)
  pub claims : tenure value ≡ tenure mark

-- the work's buffer holds one entry alone, its claim
abbrev pub HasClaim : PlainWorld → PlainWorkCall → Type 0
HasClaim w e = BuffersClaim w e.process e.cell e.mark

-- the buffer's entry of the work's cell's value, as it was stored
abbrev pub value_entry : PlainWorkCall → BufferEntry Place
value_entry e = entry (place.Value e.cell) (value_for e.entry)

-- the buffer's entry of the work's cell's kind, as it was stored
abbrev pub kind_entry : PlainWorkCall → BufferEntry Place
kind_entry e = entry (place.Kind e.cell) (word_for e.entry)

-- the buffer of the work's process holds just what `WorkHeld` says
abbrev pub WorkHolds : PlainWorld → PlainWorkCall → WorkHeld → Type 0
WorkHolds w e empty = w.memory.buffer e.process ≡ []
WorkHolds w e claim = HasClaim w e
WorkHolds w e (a_mark cell) = HasMark w e.process cell
WorkHolds w e the_value = w.memory.buffer e.process ≡ value_entry e ∷ []
WorkHolds w e both_words = w.memory.buffer e.process ≡ value_entry e ∷ kind_entry e ∷ []
WorkHolds w e the_kind = w.memory.buffer e.process ≡ kind_entry e ∷ []

-- a process in no edit: none is open, and it announces how its last one ended
pub record IsAtRest (w : PlainWorld) (p next : ℕ) : Type 0 where
  pub number : next ≤ RECORDS
  pub open_edits : w.open_edits p ≡ None
  pub below : AreBelow w p next
  pub cached : w.memory.cached (place.Announce p) ≡ last_announcement w.counted p next
  pub persisted : w.memory.persisted (place.Announce p) ≡ last_announcement w.counted p next

-- a work of a cell of the sheet knows what its stage says, its buffer holds that, and its process has no open edit
pub record WorkFits (w : PlainWorld) (p : ℕ) (e : PlainWorkCall) : Type 0 where
  pub mine : e.process ≡ p
  pub cells : cells_of w.layout ≡ e.cells
  pub processes : w.layout.processes ≡ e.processes
  pub cell : e.cell < e.cells
  pub rest : IsAtRest w e.process e.next
  pub knows : WorkKnows w e (work_known (length e.inputs) e.stage)
  pub buffer : WorkHolds w e (work_held e e.stage)
  pub at : StageFits e e.stage
