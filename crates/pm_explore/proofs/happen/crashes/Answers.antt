use Rattle.pm_explore.proofs.Leading.{crashes_lead}
use Rattle.pm_explore.proofs.happen.crashes.Goals as goal

pub returns : goal.returns
returns g c = crashes_lead g.P.Explored.structure c.args.setting.now c.args.x.now c.in_ok-crashed_with.field-0 (rw (← c.stopped.ensures) c.in_ok-crashed_with.ensures)
