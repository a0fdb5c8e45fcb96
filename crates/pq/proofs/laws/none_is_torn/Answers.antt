use Rattle.pq.proofs.Runs.{none_is_torn as holds}
use Rattle.pq.proofs.laws.none_is_torn.Goals as goal

pub returns : goal.returns
returns c = holds c.args.processes
