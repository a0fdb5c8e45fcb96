use Rattle.pm_registers.proofs.Runs.{runs_hold}
use Rattle.pm_registers.proofs.laws.runs_tell_the_truth.Goals as goal

pub returns : goal.returns
returns c = runs_hold c.args.processes
