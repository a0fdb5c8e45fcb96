use Rattle.pq.proofs.Structure.{queue_holds}
use Rattle.pq.proofs.laws.queue_is_a_structure.Goals as goal

pub returns : goal.returns
returns c = queue_holds c.args.processes
