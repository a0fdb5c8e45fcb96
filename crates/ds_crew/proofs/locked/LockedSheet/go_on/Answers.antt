use Rattle.std.proofs.Common.{rules, refl}
use Rattle.ds_core.specs.declared.event.Event.TheVariants.{Step}
use Rattle.ds_core.specs.declared.reply.Reply.TheVariants.{Stepped, NotEnabled}
use Rattle.ds_crew.specs.declared.steps.Call.TheVariants.{Work}
use Rattle.ds_crew.proofs.Trails.{by_one, may_end_after, work_ends_by}
use Rattle.ds_crew.proofs.locked.LockedSheet.go_on.Goals as goal

pub returns-in-Some-GoesOn-clause-goes_on : goal.returns-in-Some-GoesOn-clause-goes_on
returns-in-Some-GoesOn-clause-goes_on g c = by_one Work c.args.process c.args.trail.now c.step.new.trail (Step c.args.process) Stepped refl tt (search rules)

pub returns-in-Some-Answers-clause-ends : goal.returns-in-Some-Answers-clause-ends
returns-in-Some-Answers-clause-ends g c = work_ends_by c.args.process _ c.args.trail.now c.step.new.trail (search rules)

pub returns-in-None-clause-ends : goal.returns-in-None-clause-ends
returns-in-None-clause-ends g c =
    may_end_after c.args.process c.evaluate.result c.args.trail.now c.step.new.trail c.evaluate.new.trail
    (by_one Work c.args.process c.args.trail.now c.step.new.trail (Step c.args.process) NotEnabled refl tt c.in-None.ensures.trail) c.evaluate.ensures.ends
