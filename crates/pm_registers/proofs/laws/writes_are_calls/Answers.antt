use Rattle.pm_registers.proofs.Writes.{writes_hold}
use Rattle.pm_registers.proofs.laws.writes_are_calls.Goals as goal

pub returns : goal.returns
returns c = writes_hold c.args.processes
