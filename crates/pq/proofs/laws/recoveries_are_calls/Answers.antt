use Rattle.pq.proofs.Recoveries.{recoveries_hold}
use Rattle.pq.proofs.laws.recoveries_are_calls.Goals as goal

pub returns : goal.returns
returns c = recoveries_hold c.args.processes
