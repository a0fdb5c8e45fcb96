use Rattle.std.proofs.Common.{sym, rules}
use Rattle.pm_explore.proofs.Leading.{begins_lead}
use Rattle.pm_explore.proofs.happen.begins.Goals as goal

pub returns : goal.returns
returns g c = begins_lead g.P.Explored.structure c.args.setting.now c.args.x.now c.in_ok-begun_with.field-0 c.args.number c.index-planned.result.now (record { low = search rules; is = sym c.index-planned.ensures }) (search rules) c.in_ok-begun_with.ensures
