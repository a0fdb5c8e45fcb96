use Rattle.pm_explore.proofs.Closing.{all_lead}
use Rattle.pm_explore.proofs.closure.stays_in.Goals as goal

pub returns : goal.returns
returns g c = λ yes. all_lead g.P.Explored.structure c.args.setting.now c.args.table.now.positions.items c.args.x.now c.requires (c.in_ok-begins.ensures c.if-not-begins.false) (c.in_ok-steps.ensures c.if-not-steps.false) (c.in_ok-stops.ensures c.if-not-stops.false) (c.in_ok-evicts.ensures c.if-not-evicts.false) (c.in_ok-crash.ensures yes)
