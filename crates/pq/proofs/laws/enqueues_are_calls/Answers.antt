use Rattle.pq.proofs.Enqueues.{enqueues_hold}
use Rattle.pq.proofs.laws.enqueues_are_calls.Goals as goal

pub returns : goal.returns
returns c = enqueues_hold c.args.processes
