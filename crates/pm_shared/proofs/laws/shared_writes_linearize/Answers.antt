use Rattle.pm_shared.proofs.Linearized.{linearized}
use Rattle.pm_shared.proofs.laws.shared_writes_linearize.Goals as goal

pub returns : goal.returns
returns c = linearized c.args.processes
