use Rattle.pm_mark.proofs.Rising.{rise}
use Rattle.pm_mark.proofs.laws.marks_rise.Goals as goal

pub returns : goal.returns
returns c = rise c.args.processes c.law.ensures
