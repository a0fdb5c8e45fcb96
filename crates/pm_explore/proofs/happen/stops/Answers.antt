use Rattle.pm_explore.proofs.Leading.{stops_lead}
use Rattle.pm_explore.proofs.happen.stops.Goals as goal

pub returns : goal.returns
returns g c = stops_lead g.P.Explored.structure c.args.setting.now c.args.x.now c.in_ok-stopped_with.field-0 c.args.process (rw (← c.stopped.ensures) c.in_ok-stopped_with.ensures)
