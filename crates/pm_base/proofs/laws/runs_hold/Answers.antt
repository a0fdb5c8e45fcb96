use Rattle.pm_base.proofs.Running.{runs}
use Rattle.pm_base.proofs.laws.runs_hold.Goals as goal

pub returns : goal.returns
returns g c = runs g.P.Structured.structure c.args.key.now c.law.ensures
