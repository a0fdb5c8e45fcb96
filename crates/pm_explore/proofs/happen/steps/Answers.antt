use Rattle.std.proofs.Common.{sym, rules}
use Rattle.std.specs.Prelude.{None}
use Rattle.pm_explore.proofs.Leading.{steps_lead, never_leads}
use Rattle.pm_explore.proofs.happen.steps.Goals as goal

pub returns-in_ok-landed-in-Answer : goal.returns-in_ok-landed-in-Answer
returns-in_ok-landed-in-Answer g c = steps_lead g.P.Explored.structure c.args.setting.now c.args.x.now c.in_ok-seen.next c.in_ok-landed-in-Answer.field-0 c.args.process c.in-Answer.word c.index-now.result.now c.in-Some.access c.flush_class-class.result c.got-landed.result (record { low = search rules; is = sym c.index-now.ensures }) c.in-Some.ensures c.flush_class-class.ensures (rw (← c.in-Answer.is, ← c.deref.ensures.value) c.in_ok-seen.ensures) c.got-landed.ensures c.in_ok-landed-in-Answer.ensures

pub returns-in-Never : goal.returns-in-Never
returns-in-Never g c = never_leads g.P.Explored.structure c.args.setting.now c.args.x.now c.in_ok-seen.next c.args.x.now c.args.process 0 c.index-now.result.now c.in-Some.access c.flush_class-class.result (record { doing = c.index-now.result.now; says = None }) (record { low = search rules; is = sym c.index-now.ensures }) c.in-Some.ensures (rw (← c.in-Never.is, ← c.deref.ensures.value) c.in_ok-seen.ensures)
