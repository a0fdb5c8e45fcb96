-- Queues that threads share are made, their seats are taken, and they are closed and opened again.
use Rattle.std.specs.Prelude.{ℕ, ◌≡◌, ◌⊎◌, ◌<◌, ◌≤◌, ◌*◌, [], true, false}
use Rattle.std.specs.Arc.{arc_value}
use Rattle.c_handles.specs.Handles.{IsOther, Makes, Takes}
use Rattle.pm_board.specs.Rule.{AreFirst}
use Rattle.pq.specs.Places.{nodes}
use Rattle.pq.specs.Queue.{queue}
use Rattle.pq_seats.specs.Places.{past_in}
use Rattle.pq_seats.specs.Queues as seats
use Rattle.pq_seats.specs.Resting.{Remembers, remembered, words_in}
use Rattle.pq_seats.specs.declared.fault.Fault.{Fault}
use Rattle.pq_seats.specs.declared.queue.OpenQueue.{OpenQueue}
use Rattle.pq_seats.specs.declared.resting.RestingQueue.{RestingQueue}
use Rattle.pq_seats.specs.declared.seat.Seat.{Seat}
use Rattle.pq_c.specs.declared.failure.Failure.{Failure}
use Rattle.pq_c.specs.declared.failure.Failure.TheVariants.{BadCount, NoMemory, WrongHolder}
use Rattle.pq_c.specs.declared.held.Held.{Held}
use Rattle.pq_c.specs.declared.held.Held.TheVariants as held
use Rattle.pq_c.specs.declared.holder.Holder.{Holder}
use Rattle.pq_c.specs.Failures.{failure_of}
use Rattle.pq_c.specs.Holders.{holders}

-- a new queue of this many processes: with the words of a new one, with no past, and with every process between operations
pub record IsNewQueue (processes : ℕ) (h : Held) : Type 0 where
  pub opened : OpenQueue
  pub is : h ≡ held.Queue opened
  pub processes_are : (arc_value opened.board).key ≡ processes
  pub words : AreFirst queue processes (8 * nodes processes) (seats.opened_with opened)
  pub fresh : seats.AllFresh false opened
  pub past : past_in opened.past.place ≡ []

-- why no queue of this many processes is made: there is none, or an allocation failed
abbrev pub CanNotMake : ℕ → Failure → Type 0
CanNotMake processes BadCount = (processes ≡ 0) ⊎ (16384 ≤ processes)
CanNotMake processes NoMemory = (0 < processes) × (processes < 16384)
CanNotMake processes why = ⊥

-- an empty holder gets a new queue; or it stays, for a cause that holds; or it is full, and stays
abbrev pub MakesQueue : ℕ → Holder → Holder → ℕ → Type 0
MakesQueue processes old new number = Makes holders (IsNewQueue processes) (CanNotMake processes) old new number

-- the seat of the process is taken from the queue that is held
pub record IsTaken (process : ℕ) (old new taken : Held) : Type 0 where
  pub opened : OpenQueue
  pub next : OpenQueue
  pub seat : Seat
  pub was : old ≡ held.Queue opened
  pub is : new ≡ held.Queue next
  pub taken_is : taken ≡ held.Seat seat
  pub takes : seats.Takes process opened next seat

-- the seat of the process is not taken: something else is held; or for a cause that holds; or an allocation failed. The
-- queue stays
pub data IsNotTaken (process : ℕ) (old : Held) (why : Failure) (new : Held) : Type 0 where
  other : IsOther held.Queue old → new ≡ old → why ≡ WrongHolder → IsNotTaken process old why new
  fault : (q q' : OpenQueue) (f : Fault) → old ≡ held.Queue q → new ≡ held.Queue q' → seats.CanNotTake process q f → seats.IsStill q q' → why ≡ failure_of f → IsNotTaken process old why new
  memory : new ≡ old → why ≡ NoMemory → IsNotTaken process old why new

-- an empty holder gets the seat; or both stay but for what has come back to the queue, for a cause that holds
abbrev pub TakesSeat : ℕ → Holder → Holder → Holder → Holder → ℕ → Type 0
TakesSeat process old new before after number = Takes holders (IsTaken process) (IsNotTaken process) old new before after number

-- the queue is closed with a pass of each of its processes
pub record Closes (old new : Held) : Type 0 where
  pub opened : OpenQueue
  pub closed : RestingQueue
  pub was : old ≡ held.Queue opened
  pub is : new ≡ held.Closed closed
  pub closes : seats.IsClosed opened closed

-- the queue is not closed: something else is held; or a seat has not come back, or an allocation failed. The queue stays
pub data ClosesNot (old : Held) (why : Failure) (new : Held) : Type 0 where
  other : IsOther held.Queue old → new ≡ old → why ≡ WrongHolder → ClosesNot old why new
  fault : (q q' : OpenQueue) (f : Fault) → old ≡ held.Queue q → new ≡ held.Queue q' → seats.CanNotClose f → seats.IsStill q q' → why ≡ failure_of f → ClosesNot old why new

-- the closed queue is opened again: of as many processes, with its words and what it remembered, and with every process
-- stopped
pub record Opens (old new : Held) : Type 0 where
  pub closed : RestingQueue
  pub opened : OpenQueue
  pub was : old ≡ held.Closed closed
  pub is : new ≡ held.Queue opened
  pub processes_are : (arc_value opened.board).key ≡ closed.board.key
  pub words : seats.opened_with opened ≡ words_in closed
  pub past : past_in opened.past.place ≡ remembered closed
  pub fresh : seats.AllFresh true opened

-- it is not opened: something else is held; or an allocation failed. What is remembered stays so
pub data OpensNot (old : Held) (why : Failure) (new : Held) : Type 0 where
  other : IsOther held.Closed old → new ≡ old → why ≡ WrongHolder → OpensNot old why new
  memory : (c c' : RestingQueue) → old ≡ held.Closed c → new ≡ held.Closed c' → Remembers c c' → why ≡ NoMemory → OpensNot old why new
