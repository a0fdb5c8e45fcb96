-- What a session does that asks what a cell is, over a shared sheet whose edits are listed.
use Rattle.std.specs.Prelude.{◌≡◌, ◌⊎◌, ◌++◌, ◌∷◌, [], ℕ, List, Option, Some, None, Result, Ok, Err, option_map, slice_get}
use Rattle.ds_formula.specs.declared.cells.Cell.{Cell}
use Rattle.ds_formula.specs.declared.cells.Shape.{Shape}
use Rattle.ds_formula.specs.Cells.{index_of}
use Rattle.ds_eval.specs.declared.value.Value.{Value}
use Rattle.ds_server.specs.declared.desk.CallRefusal.{CallRefusal}
use Rattle.ds_server.specs.declared.desk.CallRefusal.TheVariants as refusals
use Rattle.ds_server.specs.declared.desk.ListedEdit.{ListedEdit}
use Rattle.ds_server.specs.Replies as said
use Rattle.ds_net_floor.specs.EditLists.{TellsLast}
use Rattle.ds_net_floor.specs.Entries.{entries}
use Rattle.ds_net_floor.specs.declared.edit_list.EditList.{EditList}
use Rattle.ds_net_values.specs.ListValues.{AreValues}
use Rattle.ds_net_desks.specs.DeskSeats.{Uses}
use Rattle.ds_net_desks.specs.SharedDesks.{HasReported}
use Rattle.ds_net_desks.specs.declared.numbered_seat.NumberedSeat.{NumberedSeat}

-- the lists of edits that the session has looked at, each as it was while the session had the turn to edit
abbrev pub Seen : Type 0
Seen = List (ℕ × EditList)

-- the list is looked at
abbrev pub look : EditList → Seen
look list = (0, list) ∷ []

-- a look at a list that says this of the last edit of the cell, or is out of memory
abbrev pub SaysLast : Cell → EditList → Result (Option ListedEdit) CallRefusal → Type 0
SaysLast cell list (Ok edit) = TellsLast cell (entries list) (option_map said.entry_view edit)
SaysLast cell list (Err why) = why ≡ refusals.NoMemory

-- a list was looked at, which says this of the last edit of the cell
pub record HasLooked (cell : Cell) (before : Seen) (last : Result (Option ListedEdit) CallRefusal) (after : Seen) : Type 0 where
  pub list : EditList
  pub seen : after ≡ before ++ look list
  pub says : SaysLast cell list last

-- the seat has come from the first one by reports alone
pub data HaveReported (first : NumberedSeat) : NumberedSeat → Type 0 where
  none : HaveReported first first
  one : (old new : NumberedSeat) (what : said.Said) → HaveReported first old → Uses HasReported old what new → HaveReported first new

-- the seat was used for reports alone, and lists were looked at
pub record HasTried (old : NumberedSeat) (before : Seen) (new : NumberedSeat) (after : Seen) : Type 0 where
  pub reports : HaveReported old new
  pub looks : Seen
  pub seen : after ≡ before ++ looks

-- what is said of the cell, where this is its value in a report, if it has one there, and this its last edit
abbrev pub value_said : Cell → Option said.EditEntry → Option Value → said.Said
value_said cell edit None = said.Refused refusals.NoMemory
value_said cell edit (Some value) = said.GotCell cell value edit

-- what is said of the cell with this number, where a report says this, and this is its last edit
abbrev pub got_said : Cell → ℕ → Option said.EditEntry → said.Said → said.Said
got_said cell number edit (said.Settled values) = value_said cell edit (slice_get values number)
got_said cell number edit plain = plain

-- after some tries the list was looked at before a report and after it: both times it had the same last edit of the cell, which
-- is answered with the value that the report has of the cell
pub record HasToldOf (cell : Cell) (number : ℕ) (old : NumberedSeat) (before : Seen) (what : said.Said) (new : NumberedSeat) (after : Seen) : Type 0 where
  pub mid : NumberedSeat
  pub had : Seen
  pub tried : HasTried old before mid had
  pub plain : said.Said
  pub reports : Uses HasReported mid plain new
  pub first : EditList
  pub later : EditList
  pub seen : after ≡ had ++ (look first ++ look later)
  pub edit : Option said.EditEntry
  pub was : TellsLast cell (entries first) edit
  pub still : TellsLast cell (entries later) edit
  pub says : what ≡ got_said cell number edit plain

-- a question for the cell that was answered so by the seat; or an allocation has failed in it
abbrev pub HasGot : Cell → ℕ → NumberedSeat → Seen → said.Said → NumberedSeat → Seen → Type 0
HasGot cell number old before what new after = HasToldOf cell number old before what new after ⊎ ((what ≡ said.Refused refusals.NoMemory) × HasTried old before new after)

-- ---- from scratch

-- the values after the edits of this list are said, from scratch; or an allocation has failed
abbrev pub SaysValues : Shape → EditList → said.Said → Type 0
SaysValues shape list (said.Settled values) = AreValues shape (entries list) values
SaysValues shape list (said.Refused why) = why ≡ refusals.NoMemory
SaysValues shape list what = ⊥

-- the list was looked at, and its values are said
pub record HasComputed (shape : Shape) (before : Seen) (what : said.Said) (after : Seen) : Type 0 where
  pub list : EditList
  pub seen : after ≡ before ++ look list
  pub says : SaysValues shape list what

-- the list's value of the cell is said, from scratch, with its last edit of the cell; or an allocation has failed
abbrev pub SaysCell : Shape → Cell → EditList → said.Said → Type 0
SaysCell shape cell list what =
    ((plain : said.Said) × (edit : Option said.EditEntry) × SaysValues shape list plain × TellsLast cell (entries list) edit × (what ≡ got_said cell (index_of shape cell) edit plain)) ⊎ (what ≡ said.Refused refusals.NoMemory)

-- the list was looked at, and what it has of the cell is said
pub record HasComputedCell (shape : Shape) (cell : Cell) (before : Seen) (what : said.Said) (after : Seen) : Type 0 where
  pub list : EditList
  pub seen : after ≡ before ++ look list
  pub says : SaysCell shape cell list what

-- ---- what is answered

-- by the session's seat; or, where it has none, by one that nobody has, which is given back, or from scratch
abbrev pub HasAsked : Shape → Cell → Option NumberedSeat → Seen → said.Said → Option NumberedSeat → Seen → Type 0
HasAsked shape cell (Some old) before what (Some new) after = HasGot cell (index_of shape cell) old before what new after
HasAsked shape cell None before what None after = ((old : NumberedSeat) × (new : NumberedSeat) × HasGot cell (index_of shape cell) old before what new after) ⊎ HasComputedCell shape cell before what after
HasAsked shape cell old before what new after = ⊥
