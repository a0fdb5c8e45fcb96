use Rattle.pq.proofs.Runs.{runs_tell as holds}
use Rattle.pq.proofs.laws.runs_tell_the_truth.Goals as goal

pub returns : goal.returns
returns c = holds c.args.processes
