-- What calls on what is held have done, put together.
use denote.Enum.Bare.{sameb}
use Rattle.std.proofs.Common.{ℕ, ◌≡◌, ◌*◌, true, false, refl, sym}
use Rattle.std.proofs.lemmas.Bool.{false≢true}
use Rattle.std.specs.Prelude.{List, Result, Err}
use Rattle.c_handles.specs.Handles.{content}
use Rattle.pq.specs.Places.{nodes}
use Rattle.pq_seats.specs.Calls.{CanNotBegin}
use Rattle.pq_seats.specs.Resting.{CanNotCrash}
use Rattle.pq_seats.specs.contracts.fault.Fault.{the_type}
use Rattle.pq_seats.specs.declared.fault.Fault.{Fault}
use Rattle.pq_seats.specs.declared.fault.Fault.TheVariants as fault
use Rattle.pq_seats.specs.declared.resting.RestingQueue.{RestingQueue}
use Rattle.pq_seats.specs.declared.seat.Seat.{Seat}
use Rattle.pq_c.specs.Closed.{CrashesClosed, TellsCrash, short, memory}
use Rattle.pq_c.specs.Failures.{failure_number, failure_of}
use Rattle.pq_c.specs.Shared.{BeginsNot, OnClosed}
use Rattle.pq_c.specs.declared.failure.Failure.{Failure}
use Rattle.pq_c.specs.declared.failure.Failure.TheVariants.{TooSmall, NoMemory}
use Rattle.pq_c.specs.declared.held.Held.{Held}
use Rattle.pq_c.specs.declared.held.Held.TheVariants as held

-- why a seat begins no operation, as C is answered
pub begins_not : (s : Seat) (f : Fault) → CanNotBegin s.pass f → BeginsNot s (failure_of f)
begins_not s fault.Stopped h = h
begins_not s fault.Spent h = h
begins_not s fault.NoProcess h = absurd h
begins_not s fault.SeatTaken h = absurd h
begins_not s fault.ShortChoice h = absurd h
begins_not s fault.NoMemory h = absurd h

-- ---- crashes that fail

-- how a crash of this closed queue was answered
abbrev pub CrashAnswered : List ℕ → ℕ → ℕ → ℕ → Held → RestingQueue → Type 0
CrashAnswered choice before after number h c = (answered : Result (Unit {0}) Failure) × OnClosed (CrashesClosed choice before after) h answered (held.Closed c) × TellsCrash before after answered number

module _ {choice : List ℕ} {before after number : ℕ} {h : Held} {c c' : RestingQueue} where
  -- the choice is too short, and the number of words is answered
  pub too_short : h ≡ held.Closed c → c' ≡ c → (f : Fault) → CanNotCrash choice c f → sameb the_type f fault.ShortChoice ≡ true → after ≡ 8 * nodes c.board.key → number ≡ failure_number (failure_of f) → CrashAnswered choice before after number h c'
  too_short is same fault.ShortChoice can eq words number_is = (Err TooSmall, content c c' is refl (short refl can same words), number_is)
  too_short is same fault.NoMemory can eq words number_is = absurd (false≢true eq)
  too_short is same fault.NoProcess can eq words number_is = absurd can
  too_short is same fault.SeatTaken can eq words number_is = absurd can
  too_short is same fault.Stopped can eq words number_is = absurd can
  too_short is same fault.Spent can eq words number_is = absurd can

  -- an allocation failed
  pub no_memory : h ≡ held.Closed c → c' ≡ c → (f : Fault) → CanNotCrash choice c f → sameb the_type f fault.ShortChoice ≡ false → after ≡ before → number ≡ failure_number (failure_of f) → CrashAnswered choice before after number h c'
  no_memory is same fault.NoMemory can eq words number_is = (Err NoMemory, content c c' is refl (memory refl can same words), number_is)
  no_memory is same fault.ShortChoice can eq words number_is = absurd (false≢true (sym eq))
  no_memory is same fault.NoProcess can eq words number_is = absurd can
  no_memory is same fault.SeatTaken can eq words number_is = absurd can
  no_memory is same fault.Stopped can eq words number_is = absurd can
  no_memory is same fault.Spent can eq words number_is = absurd can
