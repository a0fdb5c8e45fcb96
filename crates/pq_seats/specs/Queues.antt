-- Queues whose seats are taken, and come back.
use Rattle.std.specs.Prelude.{ℕ, ◌≡◌, ◌≢◌, ◌≤◌, ◌<◌, ◌++◌, List, [], ◌∷◌, Bool, All, map, slice_index_or}
use Rattle.std.specs.Arc.{arc_value}
use Rattle.std.specs.List.{range_with_len}
use mathlib.Core.List.{IsPrefix}
use Rattle.rtrb.specs.Ring.{known_items}
use Rattle.pm_board.specs.Rule.{Closes, HasRun}
use Rattle.pm_board.specs.Starts.{start_of}
use Rattle.pm_board.specs.declared.board.Seated.{Seated}
use Rattle.pq.specs.Queue.{queue}
use Rattle.pq.specs.declared.calls.Doing.{Doing}
use Rattle.pq.specs.declared.calls.Response.{Response}
use Rattle.pq_seats.specs.Homes.{AreLooked}
use Rattle.pq_seats.specs.Known.{IsFresh, IsOf}
use Rattle.pq_seats.specs.Places.{past_in, sole}
use Rattle.pq_seats.specs.Resting.{remembered, words_in}
use Rattle.pq_seats.specs.declared.fault.Fault.{Fault}
use Rattle.pq_seats.specs.declared.fault.Fault.TheVariants.{NoProcess, SeatTaken, NoMemory}
use Rattle.pq_seats.specs.declared.pass.Pass.{Pass}
use Rattle.pq_seats.specs.declared.queue.OpenQueue.{OpenQueue}
use Rattle.pq_seats.specs.declared.resting.RestingQueue.{RestingQueue}
use Rattle.pq_seats.specs.declared.ring.Home.{Home}
use Rattle.pq_seats.specs.declared.seat.Seat.{Seat}

-- the words with which the queue was made, or opened again
abbrev pub opened_with : OpenQueue → List ℕ
opened_with q = (arc_value q.board).table.shared.key.words.value.items

-- every seat is at home, with a pass that was answered nothing: stopped, or not
abbrev pub AllFresh : Bool → OpenQueue → Type 0
AllFresh stopped q = All (λ h. (p : Pass) × (known_items h.end ≡ p ∷ []) × IsFresh stopped p) q.homes.items

-- the same queue with the same past, whose homes may have been looked at
pub record IsStill (old new : OpenQueue) : Type 0 where
  pub queue_is : arc_value new.board ≡ arc_value old.board
  pub past : new.past ≡ old.past
  pub homes : AreLooked old.homes.items new.homes.items

-- the seat of the process is taken: it is one of the queue, its pass is the one that lay in the process's home, and all
-- else of the queue stays
pub record Takes (process : ℕ) (old new : OpenQueue) (seat : Seat) : Type 0 where
  pub seat_of : arc_value seat.board ≡ arc_value old.board
  pub process_is : seat.pass.process ≡ process
  pub came : (d : Home) → (rest : List Pass) × IsPrefix (known_items (slice_index_or old.homes.items process d).end) (seat.pass ∷ rest)
  pub queue_is : arc_value new.board ≡ arc_value old.board
  pub past : new.past ≡ old.past
  pub others : (k : ℕ) (d : Home) → k ≢ process → slice_index_or new.homes.items k d ≡ slice_index_or old.homes.items k d

-- why the seat of the process is not taken: there is no such process; or no pass was found in its home; or an allocation
-- failed
abbrev pub CanNotTake : ℕ → OpenQueue → Fault → Type 0
CanNotTake process q NoProcess = (arc_value q.board).key ≤ process
CanNotTake process q SeatTaken = (d : Home) → known_items (slice_index_or q.homes.items process d).end ≡ []
CanNotTake process q NoMemory = process < (arc_value q.board).key
CanNotTake process q why = ⊥

-- the processes of passes, with what each does and what it was answered
abbrev pub seated_by : List Pass → List (Seated Doing Response)
seated_by passes = map (λ p. sole p.place) passes

-- the queue is closed with a pass of each of its processes, in order: one run leads from a new queue to its words, and all
-- that those passes and the past were answered stands in it, and is remembered
pub record IsClosed (q : OpenQueue) (c : RestingQueue) : Type 0 where
  pub passes : List Pass
  pub each : map (λ p. p.process) passes ≡ range_with_len 0 (arc_value q.board).key
  pub of : All (λ p. IsOf (arc_value q.board).table.shared.table_id (arc_value q.board).key p) passes
  pub key : c.board.key ≡ (arc_value q.board).key
  pub before : remembered c ≡ past_in q.past.place ++ seated_by passes
  pub run : HasRun queue (arc_value q.board).key (words_in c) (past_in q.past.place ++ seated_by passes)
  pub stand : Closes queue (arc_value q.board).key (start_of (arc_value q.board).table.shared.key) (words_in c) (seated_by passes) (past_in q.past.place ++ seated_by passes)

-- why a queue is not closed: a seat may not have come back, or an allocation have failed
abbrev pub CanNotClose : Fault → Type 0
CanNotClose SeatTaken = Unit {0}
CanNotClose NoMemory = Unit {0}
CanNotClose why = ⊥
