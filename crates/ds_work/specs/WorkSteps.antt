-- The steps of work: what each stage does to the memory, and what comes then.
use Rattle.std.specs.Prelude.{ℕ, ◌≡◌, ◌≢◌, ◌<◌, ◌+◌, ◌-◌, ◌==◌, ◌&&◌, nat_lt, if◌then◌else◌, List, [], ◌∷◌, ◌++◌, length, take, Option, Some, None, true, false}
use Rattle.ds_words.specs.Memory.{SameMemory}
use Rattle.ds_words.specs.declared.access.Access.{Access}
use Rattle.ds_words.specs.declared.access.Access.TheVariants as acts
use Rattle.ds_formula.specs.Cells.{IsInside, index_of}
use Rattle.ds_formula.specs.Refs.{Refers}
use Rattle.ds_formula.specs.Grammar.{Reads}
use Rattle.ds_formula.specs.declared.cells.Cell.{Cell}
use Rattle.ds_formula.specs.declared.cells.Shape.{Shape}
use Rattle.ds_formula.specs.Plain.{PlainContent}
use Rattle.ds_eval.specs.declared.inputs.Entry as entries
use Rattle.ds_eval.specs.declared.inputs.Input.{Input}
use Rattle.ds_eval.specs.Inputs.{cell_in, with_entry, entry_in, IsAscending}
use Rattle.ds_eval.specs.Local.{local}
use Rattle.ds_layout.specs.declared.place.Place.{Place}
use Rattle.ds_layout.specs.declared.place.Place.TheVariants as place
use Rattle.ds_layout.specs.declared.head.Head.{Head}
use Rattle.ds_layout.specs.declared.header.Header.{Header}
use Rattle.ds_layout.specs.declared.mark.State.{State}
use Rattle.ds_layout.specs.declared.mark.State.TheVariants.{Clean, Marked, Held}
use Rattle.ds_layout.specs.Head.{head_of}
use Rattle.ds_layout.specs.Header.{header_of}
use Rattle.ds_layout.specs.Mark.{mark_of, state_of, held_after, generation_of, freed_after, dirtied}
use Rattle.ds_layout.specs.TextWords.{bytes_of}
use Rattle.ds_layout.specs.SheetMemory.{PerformsAt}
use Rattle.ds_layout.specs.Places.{cells_of}
use Rattle.ds_layout.specs.Bits.{parts_for}
use Rattle.ds_layout.specs.Head as head_parts
use Rattle.ds_layout.specs.TextWords as text_words
use Rattle.ds_state.specs.Telling.{spread_access, told_from}
use Rattle.ds_state.specs.Works.{PlainWorkCall, SEEN_MOST}
use Rattle.ds_state.specs.Standing.{shown_entry, value_for, word_for}
use Rattle.ds_state.specs.World.{PlainWorld}
use Rattle.ds_state.specs.declared.situation.Situation.{Situation}
use Rattle.ds_state.specs.declared.situation.Situation.TheVariants.{Idle, Working}
use Rattle.ds_state.specs.declared.spread.Spread.{Spread}
use Rattle.ds_state.specs.declared.spread.Spread.TheVariants.{LoadRow, OrTold, FlushTold, BackTold}
use Rattle.ds_state.specs.declared.work.WorkEnd.TheVariants.{NotDirty, Missed, Worn, Published, Again, NoMemory}
use Rattle.ds_state.specs.declared.work.WorkStage.{WorkStage}
use Rattle.ds_state.specs.declared.work.WorkStage.TheVariants.{LoadMark, Claim, FlushClaim, BackClaim, LoadHead, LoadHeader, LoadText, Read, LoadValue, LoadKind, LoadOwnValue, LoadOwnKind, Wait, StoreValue, StoreKind, FlushValue, FlushKind, BackValue, BackKind, Telling, Clear, ClearDirty, Give, GiveDirty, FlushCleared, BackCleared, Answer}
use Rattle.ds_layout.specs.declared.place.Edition.{Edition}
use Rattle.ds_state.specs.declared.situation.Rest.{Rest}
use Rattle.ds_state.specs.Shown.{header_in}

-- how many parts an index row of the work's sheet has
abbrev pub parts_of : PlainWorkCall → ℕ
parts_of e = parts_for e.cells

-- how many parts the text of the work has
abbrev pub text_parts : PlainWorkCall → ℕ
text_parts e = text_words.parts_for e.length

-- the index of the cell of the input with this number
abbrev pub input_place : Shape → PlainWorkCall → ℕ → ℕ
input_place shape e i = index_of shape (cell_in e.inputs i)

-- the place of the header of the record that a head's word names
abbrev pub record_header : ℕ → Place
record_header word = let head : Head = head_parts.parts_of word in place.Header head.process head.number

-- the place of a part of the text, in a layout, of the record that a head's word names
abbrev pub record_text : Edition → ℕ → ℕ → Place
record_text edition word part = let head : Head = head_parts.parts_of word in place.Text edition head.process head.number part

-- the access of a stage of work
abbrev pub access_at : Shape → PlainWorkCall → WorkStage → Access Place
access_at shape e LoadMark = acts.Load (place.Mark e.cell)
access_at shape e Claim = acts.SwapIf (place.Mark e.cell) e.mark (held_after e.process e.mark)
access_at shape e FlushClaim = acts.Flush (place.Mark e.cell)
access_at shape e BackClaim = acts.Back
access_at shape e LoadHead = acts.Load (place.Head e.cell)
access_at shape e LoadHeader = acts.Load (record_header e.head)
access_at shape e (LoadText part) = acts.Load (record_text e.edition e.head part)
access_at shape e Read = acts.Nothing
access_at shape e (LoadValue i) = acts.Load (place.Value (input_place shape e i))
access_at shape e (LoadKind i value) = acts.Load (place.Kind (input_place shape e i))
access_at shape e LoadOwnValue = acts.Load (place.Value e.cell)
access_at shape e LoadOwnKind = acts.Load (place.Kind e.cell)
access_at shape e Wait = acts.Nothing
access_at shape e StoreValue = acts.Store (place.Value e.cell) (value_for e.entry)
access_at shape e StoreKind = acts.Store (place.Kind e.cell) (word_for e.entry)
access_at shape e FlushValue = acts.Flush (place.Value e.cell)
access_at shape e FlushKind = acts.Flush (place.Kind e.cell)
access_at shape e BackValue = acts.Back
access_at shape e BackKind = acts.Back
access_at shape e (Telling spread) = spread_access e.cell spread
access_at shape e (Clear changed) = acts.SwapIf (place.Mark e.cell) e.mark (freed_after e.mark)
access_at shape e ClearDirty = acts.SwapIf (place.Mark e.cell) (dirtied e.mark) (dirtied (freed_after e.mark))
access_at shape e Give = acts.SwapIf (place.Mark e.cell) e.mark (dirtied (freed_after e.mark))
access_at shape e GiveDirty = acts.SwapIf (place.Mark e.cell) (dirtied e.mark) (dirtied (freed_after e.mark))
access_at shape e (FlushCleared end) = acts.Flush (place.Mark e.cell)
access_at shape e (BackCleared end) = acts.Back
access_at shape e (Answer end) = acts.Nothing

-- the work at another stage
abbrev pub at : PlainWorkCall → WorkStage → PlainWorkCall
at e stage = record e { stage = stage }

-- the work after it has loaded its cell's mark: marked, it claims the cell; else it answers
abbrev pub claims_from : PlainWorkCall → ℕ → State → PlainWorkCall
claims_from e word Clean = at e (Answer NotDirty)
claims_from e word (Held p) = at e (Answer Missed)
claims_from e word Marked = if nat_lt SEEN_MOST (generation_of word) then at e (Answer Worn) else record e { mark = word; stage = Claim }

-- the work after it has loaded its cell's head: it goes to that edit's header; without an edit the text is empty
abbrev pub head_from : PlainWorkCall → ℕ → Option Head → PlainWorkCall
head_from e word None = record e { head = word; length = 0; text = []; stage = Read }
head_from e word (Some head) = record e { head = word; length = 0; text = []; stage = LoadHeader }

-- the work goes to this part of the text; after the last part, to the reading of the content
abbrev pub text_from : PlainWorkCall → ℕ → PlainWorkCall
text_from e part = if nat_lt part (text_parts e) then at e (LoadText part) else at e Read

-- the work after it has loaded a header: it goes to the first part of the text; without a header the text is empty
abbrev pub header_from : PlainWorkCall → Option Header → PlainWorkCall
header_from e None = record e { length = 0; text = []; stage = Read }
header_from e (Some header) = text_from (record e { length = header.length; text = [] }) 0

-- the work goes to value and kind of this input; after the last input, to those of its own cell
abbrev pub input_from : PlainWorkCall → ℕ → PlainWorkCall
input_from e i = if nat_lt i (length e.inputs) then at e (LoadValue i) else at e LoadOwnValue

-- the work goes to mark the cell that is found; where none is found, to let its own cell go
abbrev pub told : PlainWorkCall → Option ℕ → PlainWorkCall
told e None = at e (Clear true)
told e (Some d) = at e (Telling (OrTold d))

-- the work goes to mark the next cell, from this one on, whose bit stands in the row; after the last, to let go
abbrev pub tell_from : PlainWorkCall → ℕ → PlainWorkCall
tell_from e d = told e (told_from e.row (e.cells - d) d)

-- the work goes to this part of the index row; after the last part, to the first cell to mark
abbrev pub row_from : PlainWorkCall → ℕ → PlainWorkCall
row_from e part = if nat_lt part (parts_of e) then at e (Telling (LoadRow part)) else tell_from e 0

-- the work after a stage of telling whose access answered the word
abbrev pub spread_next : PlainWorkCall → Spread → ℕ → PlainWorkCall
spread_next e (LoadRow part) word = row_from (record e { row = e.row ++ word ∷ [] }) (part + 1)
spread_next e (OrTold d) word = at e (Telling (FlushTold d))
spread_next e (FlushTold d) word = at e (Telling (BackTold d))
spread_next e (BackTold d) word = tell_from e (d + 1)

-- the work after a stage whose access answered the word; reading and waiting stay, till they end by what they are
-- given
abbrev pub next_at : PlainWorkCall → WorkStage → ℕ → PlainWorkCall
next_at e LoadMark word = claims_from e word (state_of (mark_of e.processes word))
next_at e Claim word = if word == e.mark then record e { mark = held_after e.process e.mark; stage = FlushClaim } else at e (Answer Missed)
next_at e FlushClaim word = at e BackClaim
next_at e BackClaim word = at e LoadHead
next_at e LoadHead word = head_from e word (head_of e.processes word)
next_at e LoadHeader word = header_from e (header_in e.edition (header_of e.cells word))
next_at e (LoadText part) word = text_from (record e { text = take e.length (e.text ++ bytes_of word) }) (part + 1)
next_at e Read word = at e Read
next_at e (LoadValue i) word = at e (LoadKind i word)
next_at e (LoadKind i value) word = input_from (record e { inputs = with_entry e.inputs i (shown_entry e.cells value word) }) (i + 1)
next_at e LoadOwnValue word = record e { value = word; stage = LoadOwnKind }
next_at e LoadOwnKind word = record e { kind = word; stage = Wait }
next_at e Wait word = at e Wait
next_at e StoreValue word = at e StoreKind
next_at e StoreKind word = at e FlushValue
next_at e FlushValue word = at e FlushKind
next_at e FlushKind word = at e BackValue
next_at e BackValue word = at e BackKind
next_at e BackKind word = record e { row = []; stage = Telling (LoadRow 0) }
next_at e (Telling spread) word = spread_next e spread word
next_at e (Clear changed) word = if word == e.mark then at e (FlushCleared (Published changed)) else at e ClearDirty
next_at e ClearDirty word = at e (FlushCleared Again)
next_at e Give word = if word == e.mark then at e (FlushCleared NoMemory) else at e GiveDirty
next_at e GiveDirty word = at e (FlushCleared NoMemory)
next_at e (FlushCleared end) word = at e (BackCleared end)
next_at e (BackCleared end) word = at e (Answer end)
next_at e (Answer end) word = at e (Answer end)

-- the work with its content read: it has the references, none of which is looked at yet
abbrev pub read_from : PlainWorkCall → PlainContent → List Input → PlainWorkCall
read_from e content inputs = input_from (record e { content = content; inputs = inputs }) 0

-- the work whose reading lacked memory: it goes to give its cell back dirty
abbrev pub lacks : PlainWorkCall → PlainWorkCall
lacks e = at e Give

-- the work that is offered an entry: it stores the entry's words, but where they are the cell's own
abbrev pub offered : PlainWorkCall → entries.Entry → PlainWorkCall
offered e entry = record e {
  entry = entry;
  stage = if (e.value == value_for entry) && (e.kind == word_for entry) then Clear false else StoreValue;
}

-- what the process knows beside its work
abbrev pub rest_of : PlainWorkCall → Rest
rest_of e = record { number = e.next; edition = e.edition }

-- the situation of the process after a stage of its work: the answer ends the call
abbrev pub after : PlainWorkCall → WorkStage → ℕ → Situation
after e (Answer end) word = Idle (rest_of e)
after e stage word = Working (next_at e stage word)

-- a stage that ends by its access alone: reading the content also takes memory, and waiting ends by an offer
abbrev pub IsPlainStep : WorkStage → Type 0
IsPlainStep Read = ⊥
IsPlainStep Wait = ⊥
IsPlainStep _ = Unit {0}

-- one step of the work at a stage that ends by its access, which answered the word: no edit is linearized
pub record StepsAt (e : PlainWorkCall) (stage : WorkStage) (word : ℕ) (old new : PlainWorld) : Type 0 where
  pub plain : IsPlainStep stage
  pub layout : new.layout ≡ old.layout
  pub memory : PerformsAt (access_at old.layout.shape e stage) e.process old.memory new.memory word
  pub situation : new.situation e.process ≡ after e stage word
  pub others : (q : ℕ) → q ≢ e.process → new.situation q ≡ old.situation q
  pub counted : new.counted ≡ old.counted
  pub open_edits : (q : ℕ) → new.open_edits q ≡ old.open_edits q

-- a turn of the process that touches no word: its work comes to be `f`
pub record Turns (e f : PlainWorkCall) (old new : PlainWorld) : Type 0 where
  pub layout : new.layout ≡ old.layout
  pub memory : SameMemory old.memory new.memory
  pub situation : new.situation e.process ≡ Working f
  pub others : (q : ℕ) → q ≢ e.process → new.situation q ≡ old.situation q
  pub counted : new.counted ≡ old.counted
  pub open_edits : (q : ℕ) → new.open_edits q ≡ old.open_edits q

-- work begins on a cell; its process was idle
pub record BeginsWork (next : Rest) (e : PlainWorkCall) (old new : PlainWorld) : Type 0 where
  pub turn : Turns e (at e LoadMark) old new
  pub was : old.situation e.process ≡ Idle next
  pub next_is : rest_of e ≡ next
  pub cells : cells_of old.layout ≡ e.cells
  pub processes : old.layout.processes ≡ e.processes
  pub cell : e.cell < e.cells

-- the content of a text, and that content's references on the sheet, in reading order
pub record IsContent (shape : Shape) (text : List ℕ) (content : PlainContent) (inputs : List Input) : Type 0 where
  pub reads : Reads shape text content
  pub ascending : IsAscending inputs
  pub all : (d : Cell) → Refers content d → IsInside shape d → (j : ℕ) × (j < length inputs) × (cell_in inputs j ≡ d)
  pub only : (j : ℕ) → j < length inputs → Refers content (cell_in inputs j) × IsInside shape (cell_in inputs j)

-- the work reads the content of its text, with the references
pub record ReadsAt (e : PlainWorkCall) (content : PlainContent) (inputs : List Input) (old new : PlainWorld) : Type 0 where
  pub turn : Turns e (read_from e content inputs) old new
  pub is : IsContent old.layout.shape e.text content inputs

-- the work lacks the memory to read the content of its text
abbrev pub LacksAt : PlainWorkCall → PlainWorld → PlainWorld → Type 0
LacksAt e old new = Turns e (lacks e) old new

-- the work is offered the entry that its content gives on its inputs
pub record OffersAt (e : PlainWorkCall) (entry : entries.Entry) (old new : PlainWorld) : Type 0 where
  pub turn : Turns e (offered e entry) old new
  pub is : entry ≡ local old.layout.shape e.content (entry_in e.inputs)
