use Rattle.pq_shared.proofs.Truth.{empties}
use Rattle.pq_shared.proofs.laws.shared_empty_was_so.Goals as goal

pub returns : goal.returns
returns c = empties c.args.processes
