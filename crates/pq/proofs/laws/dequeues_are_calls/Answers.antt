use Rattle.pq.proofs.Dequeues.{dequeues_hold}
use Rattle.pq.proofs.laws.dequeues_are_calls.Goals as goal

pub returns : goal.returns
returns c = dequeues_hold c.args.processes
