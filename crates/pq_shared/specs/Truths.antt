-- What the run of a board says of what the threads were answered of a queue.
use Rattle.std.specs.Prelude.{ℕ, List}
use Rattle.pm_base.specs.Structures.{In}
use Rattle.pm_base.specs.declared.history.Deed.TheVariants as deed
use Rattle.pm_board.specs.declared.board.Seated.{Seated}
use Rattle.pm_board.specs.Rule.{HasRun, world_on}
use Rattle.pq.specs.Places.{Belongs}
use Rattle.pq.specs.Queue.{queue}
use Rattle.pq.specs.Runs.{IsAt, IsHeld, IsOrder, IsTrueOf, WasClaimed, WasEmpty, WasLinked}
use Rattle.pq.specs.declared.calls.Doing.{Doing}
use Rattle.pq.specs.declared.calls.Response.{Response}
use Rattle.pq.specs.declared.calls.Response.TheVariants.{Empty}

-- through closes, crashes and openings: no operation of n processes took effect twice, the words hold the queue, and
-- whatever a process was answered at any time is true of it
abbrev pub SharedQueuesTellTheTruth : ℕ → Type 0
SharedQueuesTellTheTruth n = (words : List ℕ) (known : List (Seated Doing Response)) → (h : HasRun queue n words known)
    → IsOrder h.witness.hidden × IsHeld (world_on queue n words h.witness) × ((e : Seated Doing Response) (t : Response) → In known e → In e.deeds.done (deed.Response t) → IsTrueOf h.witness.hidden t)

-- each operation that has a place in the order took effect at a step of its own call, in the run of the board
abbrev pub SharedEffectsInCalls : ℕ → Type 0
SharedEffectsInCalls n = (words : List ℕ) (known : List (Seated Doing Response)) → (h : HasRun queue n words known) → (p i : ℕ) → Belongs p i
    → ((k : ℕ) → IsAt h.witness.hidden.links k i → WasLinked n p i (h.witness.hidden.value i) h.happened) × ((k : ℕ) → IsAt h.witness.hidden.claims k i → WasClaimed n p i h.happened)

-- a dequeue that was answered that the queue was empty ran at a moment of the run at which it was
abbrev pub SharedEmptyWasSo : ℕ → Type 0
SharedEmptyWasSo n = (words : List ℕ) (known : List (Seated Doing Response)) → (h : HasRun queue n words known) → (e : Seated Doing Response) (i : ℕ) → In known e → In e.deeds.done (deed.Response (Empty i)) → WasEmpty n e.process i h.happened
