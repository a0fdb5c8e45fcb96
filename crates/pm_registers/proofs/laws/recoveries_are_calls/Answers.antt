use Rattle.pm_registers.proofs.Recoveries.{recoveries_hold}
use Rattle.pm_registers.proofs.laws.recoveries_are_calls.Goals as goal

pub returns : goal.returns
returns c = recoveries_hold c.args.processes
