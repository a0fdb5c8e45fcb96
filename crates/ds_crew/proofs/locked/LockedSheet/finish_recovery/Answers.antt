use Rattle.std.proofs.Common.{refl, ap, ◌∙◌}
use Rattle.ds_core.specs.Ends.{recoveries}
use Rattle.ds_core.specs.Replies.{reply_of}
use Rattle.ds_core.specs.declared.event.Event.TheVariants.{Step}
use Rattle.ds_core.specs.declared.reply.Reply.TheVariants.{Stepped, NotEnabled}
use Rattle.ds_state.specs.declared.recovery.RecoveryEnd.{RecoveryEnd}
use Rattle.ds_state.specs.declared.turn.Turn.{Turn}
use Rattle.ds_crew.specs.Trails.{and_event}
use Rattle.ds_crew.specs.declared.steps.Call.TheVariants.{Recovery}
use Rattle.ds_crew.proofs.Trails.{by_one_more}
use Rattle.ds_crew.proofs.locked.LockedSheet.finish_recovery.Goals as goal

pub returns-in-Some-Answers-clause-ends : goal.returns-in-Some-Answers-clause-ends
returns-in-Some-Answers-clause-ends g c = record {
  middle = c.loop.trail;
  goes_on = c.loop.invariant;
  is = c.in-Some-Answers.ensures.trail ∙ ap (λ (turn : Turn RecoveryEnd). and_event c.loop.trail (Step c.args.process) (reply_of recoveries.answer turn)) c.in-Some-Answers.field-0-is;
}

pub loop-preserved-in-Some-GoesOn : goal.loop-preserved-in-Some-GoesOn
loop-preserved-in-Some-GoesOn g c =
    by_one_more Recovery c.args.process c.args.trail.now c.loop.trail c.step.new.trail (Step c.args.process) Stepped c.loop.invariant refl tt
    (c.in-Some-GoesOn.ensures.trail ∙ ap (λ (turn : Turn RecoveryEnd). and_event c.loop.trail (Step c.args.process) (reply_of recoveries.answer turn)) c.in-Some-GoesOn.field-0-is)

pub loop-preserved : goal.loop-preserved
loop-preserved g c = by_one_more Recovery c.args.process c.args.trail.now c.loop.trail c.step.new.trail (Step c.args.process) NotEnabled c.loop.invariant refl tt c.in-None-step.ensures.trail
