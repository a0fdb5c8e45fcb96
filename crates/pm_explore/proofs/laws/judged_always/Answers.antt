use Rattle.pm_explore.proofs.Closing.{runs_stay}
use Rattle.pm_explore.proofs.laws.judged_always.Goals as goal

pub returns : goal.returns
returns g c = λ first last start run. let k = runs_stay g.P.Explored.structure c.args.setting.now c.args.table.now.positions.items c.requires.all first last start run in (k.position, c.requires.hold k.position k.inside, k.shows)
