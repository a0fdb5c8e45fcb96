-- What threads were answered of a queue is true in the run of their board.
use Rattle.std.proofs.Common.{ℕ}
use Rattle.pm_board.specs.Rule.{world_on}
use Rattle.pm_board.proofs.Having.{answered_in_all}
use Rattle.pq.specs.Queue.{queue}
use Rattle.pq.specs.declared.calls.Response.TheVariants.{Empty}
use Rattle.pq.proofs.Structure.{queue_holds}
use Rattle.pq.proofs.Runs.{runs_tell, empty_was_so}
use Rattle.pq.proofs.Effects.{effects_in_calls}
use Rattle.pq_shared.specs.Truths.{SharedQueuesTellTheTruth, SharedEffectsInCalls, SharedEmptyWasSo}

pub truths : (n : ℕ) → SharedQueuesTellTheTruth n
truths n words known h =
    let r = runs_tell n h.first (world_on queue n words h.witness) h.happened h.new h.run in
    (r.0, r.1, (λ e t inside here. r.2 e.process t (answered_in_all queue n (queue_holds n) h.happened e t (h.did e inside) here)))

pub effects : (n : ℕ) → SharedEffectsInCalls n
effects n words known h p i mine = effects_in_calls n h.first (world_on queue n words h.witness) h.happened p i h.new h.run mine

pub empties : (n : ℕ) → SharedEmptyWasSo n
empties n words known h e i inside here = empty_was_so n h.first (world_on queue n words h.witness) h.happened e.process i h.new h.run (answered_in_all queue n (queue_holds n) h.happened e (Empty i) (h.did e inside) here)
