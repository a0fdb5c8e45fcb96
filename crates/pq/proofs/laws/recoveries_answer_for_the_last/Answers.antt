use Rattle.pq.proofs.Recalled.{recoveries_answer as holds}
use Rattle.pq.proofs.laws.recoveries_answer_for_the_last.Goals as goal

pub returns : goal.returns
returns c = holds c.args.processes
