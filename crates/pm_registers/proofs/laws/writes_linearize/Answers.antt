use Rattle.pm_registers.proofs.Linearizing.{linearize}
use Rattle.pm_registers.proofs.laws.writes_linearize.Goals as goal

pub returns : goal.returns
returns c = linearize c.args.processes
