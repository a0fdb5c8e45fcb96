-- Seats at the table of a queue, and what they know.
use Rattle.std.specs.Prelude.{ℕ, ◌≡◌, Bool, false, List, [], Some}
use Rattle.atomic_table.specs.declared.shared.Seat.{Seat}
use Rattle.pm_board.specs.declared.board.Seated.{Seated}
use Rattle.pm_board.specs.declared.board.View.{View}
use Rattle.pm_board.specs.Views.{lone, first_in, seen_at}
use Rattle.pq.specs.declared.calls.Doing.{Doing}
use Rattle.pq.specs.declared.calls.Doing.TheVariants.{Idle, Stopped}
use Rattle.pq.specs.declared.calls.Response.{Response}

-- a seat at the table of a queue
abbrev pub TablePlace : Type 0
TablePlace = Seat ℕ (View Doing Response)

-- the process of a seat that has one
abbrev pub sole : TablePlace → Seated Doing Response
sole s = first_in Stopped s.me.0.entries

-- the processes, as they were once, that a seat remembers
abbrev pub past_in : TablePlace → List (Seated Doing Response)
past_in s = s.me.0.past

-- the seat runs this one process, which has looked; where it is not stopped it is between calls, and has announced this
pub record IsKnown (s : TablePlace) (process announced : ℕ) (stopped : Bool) : Type 0 where
  pub alone : s.me ≡ (lone (sole s), [])
  pub process_is : (sole s).process ≡ process
  pub idle : stopped ≡ false → (sole s).now ≡ Idle announced
  pub looked : (sole s).deeds.seen ≡ Some (seen_at s.me)

-- the seat runs no process: it remembers alone
abbrev pub IsMemory : TablePlace → Type 0
IsMemory s = s.me ≡ (record { entries = []; past = past_in s }, [])
