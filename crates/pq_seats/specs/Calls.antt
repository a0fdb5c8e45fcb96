-- What a call of a pass does, in the words of the shared queue.
use Rattle.std.specs.Prelude.{ℕ, ◌≡◌, ◌+◌, ◌*◌, ◌/◌, ◌-◌, ◌≤◌, Bool, true, false, MatchBool, Option, Some, MatchOption}
use Rattle.pq.specs.Places.{operation_of}
use Rattle.pq.specs.declared.calls.Ended.{Ended}
use Rattle.pq.specs.declared.calls.Ended.TheVariants as ended
use Rattle.pq_shared.specs.Endings.{BreaksDequeue, BreaksEnqueue, BreaksRecovery, IsDequeued, IsEnqueued, IsRecovered}
use Rattle.pq_shared.specs.declared.calls.Recovery.{Recovery}
use Rattle.pq_seats.specs.declared.fault.Fault.{Fault}
use Rattle.pq_seats.specs.declared.fault.Fault.TheVariants.{Stopped, Spent}
use Rattle.pq_seats.specs.declared.pass.Pass.{Pass}

-- why a pass does not begin an operation: it has to recover, or it has no operation left
abbrev pub CanNotBegin : Pass → Fault → Type 0
CanNotBegin p Stopped = p.stopped ≡ true
CanNotBegin p Spent = 1024 ≤ p.next
CanNotBegin p _ = ⊥

-- the next operation of a pass
abbrev pub next_of : Pass → ℕ
next_of p = operation_of p.process p.next

-- whether a process goes on after an operation that ended so: else it has to recover
abbrev pub goes_on : Option Ended → Bool
goes_on (Some ended.Enqueued) = true
goes_on (Some (ended.Got x)) = true
goes_on (Some ended.Empty) = true
goes_on _ = false

-- the pass after an operation that ended so: it goes on with the next one, or has to recover
pub record Moves (how : Option Ended) (old new : Pass) : Type 0 where
  pub process : new.process ≡ old.process
  pub goes : goes_on how ≡ true → (new.stopped ≡ false) × (new.next ≡ old.next + 1)
  pub stops : goes_on how ≡ false → new.stopped ≡ true

-- among m processes, the pass enqueued the value by its next operation, in no more steps than its fuse has; or it was broken
-- off after just that number
pub record Enqueues (m value fuse : ℕ) (old new : Pass) (how : Option Ended) : Type 0 where
  pub taken : ℕ
  pub few : taken ≤ fuse
  pub ends : MatchOption how (BreaksEnqueue old.place.me new.place.me m old.process (next_of old) value taken × (taken ≡ fuse)) (λ e. IsEnqueued old.place.me new.place.me m old.process (next_of old) value e taken)
  pub moves : Moves how old new

-- so it is with a dequeue
pub record Dequeues (m fuse : ℕ) (old new : Pass) (how : Option Ended) : Type 0 where
  pub taken : ℕ
  pub few : taken ≤ fuse
  pub ends : MatchOption how (BreaksDequeue old.place.me new.place.me m old.process (next_of old) taken × (taken ≡ fuse)) (λ e. IsDequeued old.place.me new.place.me m old.process (next_of old) e taken)
  pub moves : Moves how old new

-- whether a recovery that ended so found what came of the last operation: else the process has to recover again
abbrev pub is_found : Ended → Bool
is_found (ended.Recovered f) = true
is_found _ = false

-- the number of the operation after the one that a process announced by this word
abbrev pub next_after : ℕ → ℕ → ℕ
next_after process announced = announced / 2 - 1024 * process

-- the pass's process recovered: it was answered what came of the operation that it announced last, and goes on with the number
-- after that; or it was broken off
pub record Recovers (m fuse : ℕ) (old new : Pass) (how : Option Recovery) : Type 0 where
  pub taken : ℕ
  pub few : taken ≤ fuse
  pub ends : MatchOption how (BreaksRecovery old.place.me new.place.me m old.process taken × (taken ≡ fuse)) (λ r. IsRecovered old.place.me new.place.me m old.process r taken)
  pub process : new.process ≡ old.process
  pub goes : MatchOption how (new.stopped ≡ true) (λ r. MatchBool (is_found r.ended) ((new.stopped ≡ false) × (new.next ≡ next_after old.process r.announced)) (new.stopped ≡ true))
