use Rattle.pm_explore.proofs.Leading.{evicts_lead}
use Rattle.pm_explore.proofs.happen.evicts.Goals as goal

pub returns : goal.returns
returns g c = evicts_lead g.P.Explored.structure c.args.setting.now c.args.x.now c.in_ok-evicted_with.field-0 c.args.number (rw (← c.deref-2.ensures.value) c.in_ok-evicted_with.ensures)
