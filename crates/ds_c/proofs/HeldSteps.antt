-- What calls on what is held have done, put together.
use denote.Enum.Bare.{sameb}
use Rattle.std.proofs.Common.{ℕ, ◌≡◌, true, false, refl, sym}
use Rattle.std.proofs.lemmas.Bool.{false≢true}
use Rattle.std.specs.Prelude.{List, Result, Err}
use Rattle.std.specs.Arc.{arc_value}
use Rattle.c_handles.specs.Handles.{content}
use Rattle.ds_formula.specs.declared.cells.Cell.{Cell}
use Rattle.ds_shared_seats.specs.Resting as resting
use Rattle.ds_shared_seats.specs.Sheets as seats
use Rattle.ds_shared_seats.specs.declared.fault.Fault.{Fault}
use Rattle.ds_shared_seats.specs.declared.fault.Fault.TheVariants as fault
use Rattle.ds_shared_seats.specs.declared.resting.RestingSheet.{RestingSheet}
use Rattle.ds_shared_seats.specs.declared.seat.Seat.{Seat}
use Rattle.ds_layout.specs.Places.{words_of}
use Rattle.ds_shared_seats.specs.contracts.fault.Fault.{the_type}
use Rattle.ds_c.specs.Closed.{CrashesClosed, LacksClosedCell, LacksClosedText, TellsCrash, short, memory}
use Rattle.ds_c.specs.Failures.{failure_number, failure_of}
use Rattle.ds_c.specs.Shared.{LacksCellAt, OnClosed}
use Rattle.ds_c.specs.declared.failure.Failure.{Failure}
use Rattle.ds_c.specs.declared.failure.Failure.TheVariants.{TooSmall, NoMemory}
use Rattle.ds_c.specs.declared.held.Held.{Held}
use Rattle.ds_c.specs.declared.held.Held.TheVariants as held

-- a fault of a seat's call, as C is told of it
pub lacks_cell : (s : Seat) (cell : Cell) (f : Fault) → seats.LacksCell (arc_value s.sheet) cell f → LacksCellAt cell s (failure_of f)
lacks_cell s cell fault.NoCell h = h
lacks_cell s cell fault.NoProcess h = absurd h
lacks_cell s cell fault.SeatTaken h = absurd h
lacks_cell s cell fault.ShortChoice h = absurd h
lacks_cell s cell fault.NoMemory h = absurd h

-- a fault of a reading
pub lacks_closed_cell : (c : RestingSheet) (cell : Cell) (f : Fault) → resting.LacksCellIn c.sheet cell f → LacksClosedCell cell c (failure_of f)
lacks_closed_cell c cell fault.NoCell h = h
lacks_closed_cell c cell fault.NoProcess h = absurd h
lacks_closed_cell c cell fault.SeatTaken h = absurd h
lacks_closed_cell c cell fault.ShortChoice h = absurd h
lacks_closed_cell c cell fault.NoMemory h = absurd h

-- a fault of the reading of a text
pub lacks_closed_text : (c : RestingSheet) (cell : Cell) (f : Fault) → resting.LacksText c.sheet cell f → LacksClosedText cell c (failure_of f)
lacks_closed_text c cell fault.NoCell h = h
lacks_closed_text c cell fault.NoMemory h = h
lacks_closed_text c cell fault.NoProcess h = absurd h
lacks_closed_text c cell fault.SeatTaken h = absurd h
lacks_closed_text c cell fault.ShortChoice h = absurd h

-- ---- crashes that fail

-- how a crash of this closed sheet was told
abbrev pub CrashTold : List ℕ → ℕ → ℕ → ℕ → Held → RestingSheet → Type 0
CrashTold choice before after number h c = (told : Result (Unit {0}) Failure) × OnClosed (CrashesClosed choice before after) h told (held.Closed c) × TellsCrash before after told number

module _ {choice : List ℕ} {before after number : ℕ} {h : Held} {c c' : RestingSheet} where
  -- the choice is too short, and the number of words is told
  pub too_short : h ≡ held.Closed c → c' ≡ c → (f : Fault) → resting.CanNotCrash choice c.sheet f → sameb the_type f fault.ShortChoice ≡ true → after ≡ words_of c.sheet.layout → number ≡ failure_number (failure_of f) → CrashTold choice before after number h c'
  too_short is same fault.ShortChoice can eq words number_is = (Err TooSmall, content c c' is refl (short refl can same words), number_is)
  too_short is same fault.NoMemory can eq words number_is = absurd (false≢true eq)
  too_short is same fault.NoProcess can eq words number_is = absurd can
  too_short is same fault.NoCell can eq words number_is = absurd can
  too_short is same fault.SeatTaken can eq words number_is = absurd can

  -- an allocation failed
  pub no_memory : h ≡ held.Closed c → c' ≡ c → (f : Fault) → resting.CanNotCrash choice c.sheet f → sameb the_type f fault.ShortChoice ≡ false → after ≡ before → number ≡ failure_number (failure_of f) → CrashTold choice before after number h c'
  no_memory is same fault.NoMemory can eq words number_is = (Err NoMemory, content c c' is refl (memory refl can same words), number_is)
  no_memory is same fault.ShortChoice can eq words number_is = absurd (false≢true (sym eq))
  no_memory is same fault.NoProcess can eq words number_is = absurd can
  no_memory is same fault.NoCell can eq words number_is = absurd can
  no_memory is same fault.SeatTaken can eq words number_is = absurd can
