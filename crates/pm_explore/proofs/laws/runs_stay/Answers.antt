use Rattle.pm_explore.proofs.Closing.{runs_stay}
use Rattle.pm_explore.proofs.laws.runs_stay.Goals as goal

pub returns : goal.returns
returns g c = runs_stay g.P.Explored.structure c.args.setting.now c.args.table.now.positions.items c.requires
