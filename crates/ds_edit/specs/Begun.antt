-- How an edit begins, or is refused.
use Rattle.std.specs.Prelude.{ℕ, ◌≡◌, ◌≢◌, ◌<◌, ◌≤◌, ◌⊎◌, length, List, map}
use Rattle.ds_formula.specs.declared.cells.Shape.{Shape}
use Rattle.ds_formula.specs.declared.cells.Cell.{Cell}
use Rattle.ds_formula.specs.Cells.{index_of}
use Rattle.ds_formula.specs.Plain.{PlainContent}
use Rattle.ds_formula.specs.Refs.{AreRefs}
use Rattle.ds_formula.specs.Grammar.{Reads, Faults, TakesMemory}
use Rattle.ds_layout.specs.declared.place.TheConstants.{RECORDS}
use Rattle.ds_layout.specs.declared.layout.Layout.{Layout}
use Rattle.ds_state.specs.Edits.{PlainEditCall, IsEdit}
use Rattle.ds_state.specs.World.{edit_of, PlainWorld}
use Rattle.ds_state.specs.CallsFit.{IsSheetOf, HasRefs}
use Rattle.ds_state.specs.declared.refusal.Refusal.{Refusal}
use Rattle.ds_state.specs.declared.refusal.Refusal.TheVariants as refusal
use Rattle.ds_state.specs.declared.situation.Situation.{Situation}
use Rattle.ds_state.specs.declared.situation.Situation.TheVariants.{Idle, Stopped, Editing, Working, Recovering, Showing, Migrating}
use Rattle.ds_edit.specs.EditTakes.{Begins}
use Rattle.ds_layout.specs.declared.place.Edition.{Edition}
use Rattle.ds_formula.specs.declared.fault.TextFault.{TextFault}
use Rattle.ds_formula.specs.declared.fault.FaultKind.TheVariants.{TooLong}
use Rattle.ds_state.specs.Editions.{most_in}
use Rattle.ds_state.specs.declared.situation.Rest.{Rest}

-- these are the numbers of the cells written in the content, in reading order
pub record AreNumbers (shape : Shape) (content : PlainContent) (refs : List ℕ) : Type 0 where
  pub cells : List Cell
  pub written : AreRefs content cells
  pub numbers : refs ≡ map (index_of shape) cells

-- the text has a content, and these are the numbers of the cells written in it
pub record RefersTo (shape : Shape) (text refs : List ℕ) : Type 0 where
  pub content : PlainContent
  pub reads : Reads shape text content
  pub numbers : AreNumbers shape content refs

-- the process's edit of this number, of the cell to the text: its references are the cells of the text
pub record IsAskedFor (layout : Layout) (process cell : ℕ) (text : List ℕ) (number : ℕ) (e : PlainEditCall) : Type 0 where
  pub asked : edit_of e ≡ record { process = process; number = number; cell = cell; text = text }
  pub is : IsEdit e
  pub sheet : IsSheetOf layout e
  pub refs : HasRefs layout.shape e.text e.refs
  pub only : RefersTo layout.shape text e.refs

-- the process begins its edit of this number, of the cell to the text
pub record IsBegun (old : PlainWorld) (process cell : ℕ) (text : List ℕ) (number : ℕ) (new : PlainWorld) : Type 0 where
  pub edit : PlainEditCall
  pub asked : IsAskedFor old.layout process cell text number edit
  pub begins : Begins edit old new

-- the process is idle, and knows this
abbrev pub IsIdle : PlainWorld → ℕ → Rest → Type 0
IsIdle w process next = w.situation process ≡ Idle next

-- the first fault of a text in a sheet of this layout: a text that is too long for it is not read
pub data FaultsIn (shape : Shape) (edition : Edition) (text : List ℕ) (fault : TextFault) : Type 0 where
  too_long : most_in edition < length text → fault ≡ record { kind = TooLong; offset = most_in edition } → FaultsIn shape edition text fault
  within : length text ≤ most_in edition → Faults shape text fault → FaultsIn shape edition text fault

-- why an idle process that knows this may not begin its edit, to the text: an allocation fails where a text that its
-- layout has room for is read, or, with records left, for its references
abbrev pub RefusesIdle : Shape → Rest → List ℕ → Refusal → Type 0
RefusesIdle shape next text refusal.Busy = ⊥
RefusesIdle shape next text refusal.Stopped = ⊥
RefusesIdle shape next text (refusal.Text fault) = FaultsIn shape next.edition text fault
RefusesIdle shape next text refusal.RecordsFull = (next.number ≡ RECORDS) × ((content : PlainContent) × Reads shape text content)
RefusesIdle shape next text refusal.NoMemory = (length text ≤ most_in next.edition) × (TakesMemory text ⊎ ((next.number ≢ RECORDS) × ((content : PlainContent) × Reads shape text content)))
RefusesIdle shape next text (refusal.Migrating q) = ⊥
RefusesIdle shape next text (refusal.NotStopped q) = ⊥

-- why a process may not begin an edit to the text: by its situation
abbrev pub RefusesIn : Shape → List ℕ → Situation → Refusal → Type 0
RefusesIn shape text (Idle next) r = RefusesIdle shape next text r
RefusesIn shape text Stopped r = r ≡ refusal.Stopped
RefusesIn shape text (Editing e) r = r ≡ refusal.Busy
RefusesIn shape text (Working e) r = r ≡ refusal.Busy
RefusesIn shape text (Recovering e) r = r ≡ refusal.Busy
RefusesIn shape text (Showing e) r = r ≡ refusal.Busy
RefusesIn shape text (Migrating e) r = r ≡ refusal.Busy

-- why a process of this world may not begin an edit to the text
abbrev pub Refuses : PlainWorld → ℕ → List ℕ → Refusal → Type 0
Refuses w process text r = RefusesIn w.layout.shape text (w.situation process) r
