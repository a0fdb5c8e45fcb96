use Rattle.pq.proofs.Runs.{answers_agree as holds}
use Rattle.pq.proofs.laws.answers_agree.Goals as goal

pub returns : goal.returns
returns c = holds c.args.processes
