use Rattle.pq_shared.proofs.Truth.{truths}
use Rattle.pq_shared.proofs.laws.shared_queues_tell_the_truth.Goals as goal

pub returns : goal.returns
returns c = truths c.args.processes
