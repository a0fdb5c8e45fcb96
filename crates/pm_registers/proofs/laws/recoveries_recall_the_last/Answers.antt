use Rattle.pm_registers.proofs.Recalled.{recalls_the_last}
use Rattle.pm_registers.proofs.laws.recoveries_recall_the_last.Goals as goal

pub returns : goal.returns
returns c = recalls_the_last c.args.processes
