use Rattle.pm_registers.proofs.Sound.{registers_hold}
use Rattle.pm_registers.proofs.laws.registers_are_a_structure.Goals as goal

pub returns : goal.returns
returns c = registers_hold c.args.processes
