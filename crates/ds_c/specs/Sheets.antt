-- Sheets that threads share are made, their seats are taken, and they are closed and opened again.
use Rattle.std.specs.Prelude.{ℕ, ◌≡◌, [], true, false}
use Rattle.std.specs.Arc.{arc_value}
use Rattle.std.specs.Mem.Slots.{slots_items}
use Rattle.c_handles.specs.Handles.{IsOther, Makes, Takes}
use Rattle.pm_board.specs.Views.{past_of}
use Rattle.ds_structure_shared.specs.Boards.{new_words}
use Rattle.ds_shared.specs.Answers.{opened_with}
use Rattle.ds_shared.specs.Known.{past_in}
use Rattle.ds_shared_seats.specs.Sheets as seats
use Rattle.ds_shared_seats.specs.Resting.{Remembers}
use Rattle.ds_shared_seats.specs.declared.fault.Fault.{Fault}
use Rattle.ds_shared_seats.specs.declared.resting.RestingSheet.{RestingSheet}
use Rattle.ds_shared_seats.specs.declared.seat.Seat.{Seat}
use Rattle.ds_shared_seats.specs.declared.sheet.OpenSheet.{OpenSheet}
use Rattle.ds_c.specs.declared.failure.Failure.{Failure}
use Rattle.ds_c.specs.declared.failure.Failure.TheVariants.{NoMemory, WrongHolder}
use Rattle.ds_c.specs.declared.held.Held.{Held}
use Rattle.ds_c.specs.declared.held.Held.TheVariants as held
use Rattle.ds_c.specs.declared.holder.Holder.{Holder}
use Rattle.ds_c.specs.Failures.{failure_of}
use Rattle.ds_c.specs.Holders.{holders}
use Rattle.ds_c.specs.Making.{CanNotMake}

-- a new sheet with this number of columns, of rows and of processes: with the words of a new one, with no past, and with
-- every process between calls
pub record IsNewSheet (columns rows processes : ℕ) (h : Held) : Type 0 where
  pub sheet : OpenSheet
  pub is : h ≡ held.Sheet sheet
  pub columns_are : (arc_value sheet.sheet).board.layout.shape.columns ≡ columns
  pub rows_are : (arc_value sheet.sheet).board.layout.shape.rows ≡ rows
  pub processes_are : (arc_value sheet.sheet).board.layout.processes ≡ processes
  pub words : opened_with (arc_value sheet.sheet) ≡ new_words (arc_value sheet.sheet).board.layout
  pub fresh : seats.AllFresh false sheet
  pub past : past_in sheet.past.place ≡ []

-- an empty holder gets a new sheet; or it stays, for a cause that holds; or it is full, and stays
abbrev pub MakesSheet : ℕ → ℕ → ℕ → Holder → Holder → ℕ → Type 0
MakesSheet columns rows processes old new number = Makes holders (IsNewSheet columns rows processes) (CanNotMake columns rows processes) old new number

-- the seat of the process is taken from the sheet that is held
pub record IsTaken (process : ℕ) (old new taken : Held) : Type 0 where
  pub sheet : OpenSheet
  pub next : OpenSheet
  pub seat : Seat
  pub was : old ≡ held.Sheet sheet
  pub is : new ≡ held.Sheet next
  pub taken_is : taken ≡ held.Seat seat
  pub takes : seats.Takes process sheet next seat

-- the seat of the process is not taken: something else is held; or for a cause that holds; or an allocation failed. The
-- sheet stays
pub data IsNotTaken (process : ℕ) (old : Held) (why : Failure) (new : Held) : Type 0 where
  other : IsOther held.Sheet old → new ≡ old → why ≡ WrongHolder → IsNotTaken process old why new
  fault : (s s' : OpenSheet) (f : Fault) → old ≡ held.Sheet s → new ≡ held.Sheet s' → seats.CanNotTake process s f → seats.IsStill s s' → why ≡ failure_of f → IsNotTaken process old why new
  memory : new ≡ old → why ≡ NoMemory → IsNotTaken process old why new

-- an empty holder gets the seat; or both stay but for what has come back to the sheet, for a cause that holds
abbrev pub TakesSeat : ℕ → Holder → Holder → Holder → Holder → ℕ → Type 0
TakesSeat process old new before after number = Takes holders (IsTaken process) (IsNotTaken process) old new before after number

-- the sheet is closed with a pass of each of its processes
pub record Closes (old new : Held) : Type 0 where
  pub sheet : OpenSheet
  pub closed : RestingSheet
  pub was : old ≡ held.Sheet sheet
  pub is : new ≡ held.Closed closed
  pub closes : seats.IsClosed sheet closed.sheet

-- the sheet is not closed: something else is held; or a seat has not come back, or an allocation failed. The sheet stays
pub data ClosesNot (old : Held) (why : Failure) (new : Held) : Type 0 where
  other : IsOther held.Sheet old → new ≡ old → why ≡ WrongHolder → ClosesNot old why new
  fault : (s s' : OpenSheet) (f : Fault) → old ≡ held.Sheet s → new ≡ held.Sheet s' → seats.CanNotClose f → seats.IsStill s s' → why ≡ failure_of f → ClosesNot old why new

-- the closed sheet is opened again: with its layout, its words and what it remembered, and with every process stopped
pub record Opens (old new : Held) : Type 0 where
  pub closed : RestingSheet
  pub sheet : OpenSheet
  pub was : old ≡ held.Closed closed
  pub is : new ≡ held.Sheet sheet
  pub layout : (arc_value sheet.sheet).board.layout ≡ closed.sheet.layout
  pub words : opened_with (arc_value sheet.sheet) ≡ slots_items closed.sheet.words.table.words
  pub past : past_in sheet.past.place ≡ past_of closed.sheet.words.before
  pub fresh : seats.AllFresh true sheet

-- it is not opened: something else is held; or an allocation failed. What is remembered stays so
pub data OpensNot (old : Held) (why : Failure) (new : Held) : Type 0 where
  other : IsOther held.Closed old → new ≡ old → why ≡ WrongHolder → OpensNot old why new
  memory : (c c' : RestingSheet) → old ≡ held.Closed c → new ≡ held.Closed c' → Remembers c.sheet c'.sheet → why ≡ NoMemory → OpensNot old why new
