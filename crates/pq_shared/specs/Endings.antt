-- Where a call on the queue has come.
use Rattle.std.specs.Prelude.{ℕ, ◌≡◌, ◌+◌, ◌*◌, ◌/◌, ◌≤◌, List, [], ◌∷◌, ◌++◌}
use Rattle.atomic_table.specs.Table.{Me}
use Rattle.pm_base.specs.declared.history.Deed.TheVariants as deed
use Rattle.pm_board.specs.declared.board.View.{View}
use Rattle.pm_board.specs.Machines.{answered_so, Breaks, Grows}
use Rattle.pm_board.specs.Views.{deeds_at, Sits}
use Rattle.pq.specs.Calls.{first_enqueue, first_dequeue, first_recovery}
use Rattle.pq.specs.Places.{nodes}
use Rattle.pq.specs.Queue.{dequeues, enqueues, found_says, queue, recoveries}
use Rattle.pq.specs.declared.enqueue.Enqueue.{Enqueue}
use Rattle.pq.specs.declared.dequeue.Dequeue.{Dequeue}
use Rattle.pq.specs.declared.recover.Recover.{Recover}
use Rattle.pq.specs.declared.calls.Doing.{Doing}
use Rattle.pq.specs.declared.calls.Doing.TheVariants.{Idle, Enqueueing, Dequeueing, Recovering, Torn}
use Rattle.pq.specs.declared.calls.Response.{Response}
use Rattle.pq.specs.declared.calls.Response.TheVariants.{Enqueued, Got, Empty}
use Rattle.pq.specs.declared.calls.Ended.{Ended}
use Rattle.pq.specs.declared.calls.Ended.TheVariants as ended
use Rattle.pq_shared.specs.declared.calls.Recovery.{Recovery}

-- the process began the call, and after n steps, at most this many, does what the call leaves it to do, and was answered
-- what the call leaves; it did nothing else, and all this stands in the history that it has seen since
pub record HasEnded (old new : Me ℕ (View Doing Response)) (process : ℕ) (call : Doing) (Leaves : Doing → List Response → Type 0) (most n : ℕ) : Type 0 where
  pub now : Doing
  pub answers : List Response
  pub leaves : Leaves now answers
  pub sits : Sits new process now
  pub done : (deeds_at new).done ≡ answered_so answers ++ (deed.Began call ∷ (deeds_at old).done)
  pub grows : Grows process (deeds_at old) (deeds_at new) n
  pub few : n ≤ most

-- what the process does after the enqueue of the value x, its operation i, that ended so, and what it was answered
abbrev pub EnqueueLeaves : ℕ → ℕ → Ended → Doing → List Response → Type 0
EnqueueLeaves i x ended.Enqueued now answers = (now ≡ Idle (2 * i)) × (answers ≡ Enqueued i x ∷ [])
EnqueueLeaves i x ended.Torn now answers = (now ≡ Torn) × (answers ≡ [])
EnqueueLeaves i x _ now answers = ⊥

-- so it is after a dequeue, its operation i
abbrev pub DequeueLeaves : ℕ → Ended → Doing → List Response → Type 0
DequeueLeaves i (ended.Got x) now answers = (now ≡ Idle (2 * i + 1)) × (answers ≡ Got i x ∷ [])
DequeueLeaves i ended.Empty now answers = (now ≡ Idle (2 * i + 1)) × (answers ≡ Empty i ∷ [])
DequeueLeaves i ended.Torn now answers = (now ≡ Torn) × (answers ≡ [])
DequeueLeaves i _ now answers = ⊥

-- so it is after a recovery, which read this announcement: it is answered what was found of that operation
abbrev pub RecoverLeaves : ℕ → Ended → Doing → List Response → Type 0
RecoverLeaves u (ended.Recovered f) now answers = (now ≡ Idle u) × (answers ≡ found_says (u / 2) f)
RecoverLeaves u ended.Torn now answers = (now ≡ Torn) × (answers ≡ [])
RecoverLeaves u _ now answers = ⊥

-- among m processes, the process p enqueued the value x by its operation i
abbrev pub IsEnqueued : Me ℕ (View Doing Response) → Me ℕ (View Doing Response) → ℕ → ℕ → ℕ → ℕ → Ended → ℕ → Type 0
IsEnqueued old new m p i x end n = HasEnded old new p (Enqueueing (first_enqueue m p i x)) (EnqueueLeaves i x end) (9 * nodes m + 15) n

-- among m processes, the process p dequeued by its operation i
abbrev pub IsDequeued : Me ℕ (View Doing Response) → Me ℕ (View Doing Response) → ℕ → ℕ → ℕ → Ended → ℕ → Type 0
IsDequeued old new m p i end n = HasEnded old new p (Dequeueing (first_dequeue m p i)) (DequeueLeaves i end) (12 * nodes m + 15) n

-- among m processes, the process p recovered
abbrev pub IsRecovered : Me ℕ (View Doing Response) → Me ℕ (View Doing Response) → ℕ → ℕ → Recovery → ℕ → Type 0
IsRecovered old new m p r n = HasEnded old new p (Recovering (first_recovery m p)) (RecoverLeaves r.announced r.ended) (2 * nodes m + 12) n

-- among m processes, the enqueue was broken off after n steps: before its first step, and the seat is as it was; or the
-- process began it, was answered nothing, and did nothing else
abbrev pub BreaksEnqueue : Me ℕ (View Doing Response) → Me ℕ (View Doing Response) → ℕ → ℕ → ℕ → ℕ → ℕ → Type 0
BreaksEnqueue old new m p i x n = (call : Enqueue) × Breaks queue enqueues m (first_enqueue m p i x) old new call n

-- so was a dequeue
abbrev pub BreaksDequeue : Me ℕ (View Doing Response) → Me ℕ (View Doing Response) → ℕ → ℕ → ℕ → ℕ → Type 0
BreaksDequeue old new m p i n = (call : Dequeue) × Breaks queue dequeues m (first_dequeue m p i) old new call n

-- so was a recovery
abbrev pub BreaksRecovery : Me ℕ (View Doing Response) → Me ℕ (View Doing Response) → ℕ → ℕ → ℕ → Type 0
BreaksRecovery old new m p n = (call : Recover) × Breaks queue recoveries m (first_recovery m p) old new call n
