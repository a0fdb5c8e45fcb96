use Rattle.std.proofs.Common.{ℕ, refl, ap, ◌∙◌}
use Rattle.ds_core.specs.Counts.{done_of}
use Rattle.ds_core.specs.Ends.{edits}
use Rattle.ds_core.specs.Replies.{reply_of}
use Rattle.ds_core.specs.declared.event.Event.TheVariants.{Step}
use Rattle.ds_core.specs.declared.reply.Reply.TheVariants.{Answered, Stepped, NotEnabled}
use Rattle.ds_state.specs.declared.answer.EditEnd.{EditEnd}
use Rattle.ds_state.specs.declared.turn.Turn.{Turn}
use Rattle.ds_crew.specs.Passes.{PlainPass}
use Rattle.ds_crew.specs.Trails.{and_event}
use Rattle.ds_crew.specs.declared.steps.Call.TheVariants.{Edit}
use Rattle.ds_crew.proofs.Trails.{by_one_more, stays}
use Rattle.ds_crew.proofs.locked.LockedSheet.finish_edit.Goals as goal

pub returns-in-Some-Answers-clause-ends : goal.returns-in-Some-Answers-clause-ends
returns-in-Some-Answers-clause-ends g c = record {
  middle = c.loop.pass.trail;
  goes_on = c.loop.invariant.goes_on;
  is =
      c.in-Some-Answers.ensures.trail
      ∙ ap (λ (turn : Turn EditEnd). and_event c.loop.pass.trail (Step c.loop.pass.process) (reply_of edits.answer turn)) c.in-Some-Answers.field-0-is
      ∙ ap (λ (p : ℕ). and_event c.loop.pass.trail (Step p) (Answered (edits.answer c.in-Some-Answers.end))) (ap (λ (pass : PlainPass). pass.process) c.loop.invariant.same);
}

pub loop-preserved-in-Some-GoesOn : goal.loop-preserved-in-Some-GoesOn
loop-preserved-in-Some-GoesOn g c = record {
  same =
      stays c.args.pass.now c.loop.pass c.step_edit.new.pass _ (ap (λ (turn : Turn EditEnd). done_of (reply_of edits.answer turn)) c.in-Some-GoesOn.field-0-is) c.in-Some-GoesOn.ensures.pass c.loop.invariant.same;
  goes_on =
      by_one_more Edit c.args.pass.now.process c.args.pass.now.trail c.loop.pass.trail c.step_edit.new.pass.trail (Step c.loop.pass.process) Stepped c.loop.invariant.goes_on
      (ap (λ (pass : PlainPass). pass.process) c.loop.invariant.same) tt (c.in-Some-GoesOn.ensures.trail ∙ ap (λ (turn : Turn EditEnd). and_event c.loop.pass.trail (Step c.loop.pass.process) (reply_of edits.answer turn)) c.in-Some-GoesOn.field-0-is);
}

pub loop-preserved : goal.loop-preserved
loop-preserved g c = record {
  same =
      stays c.args.pass.now c.loop.pass c.step_edit.new.pass 0 refl c.in-None-step_edit.ensures.pass c.loop.invariant.same;
  goes_on =
      by_one_more Edit c.args.pass.now.process c.args.pass.now.trail c.loop.pass.trail c.step_edit.new.pass.trail (Step c.loop.pass.process) NotEnabled c.loop.invariant.goes_on
      (ap (λ (pass : PlainPass). pass.process) c.loop.invariant.same) tt c.in-None-step_edit.ensures.trail;
}
