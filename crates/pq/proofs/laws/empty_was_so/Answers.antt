use Rattle.pq.proofs.Runs.{empty_was_so as holds}
use Rattle.pq.proofs.laws.empty_was_so.Goals as goal

pub returns : goal.returns
returns c = holds c.args.processes
