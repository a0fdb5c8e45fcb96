use Rattle.std.proofs.Common.{ℕ, ap, ◌∙◌, subst}
use Rattle.ds_layout.specs.Places.{cells_of}
use Rattle.ds_core.specs.Ends.{reports}
use Rattle.ds_core.specs.Replies.{reply_of}
use Rattle.ds_core.specs.declared.event.Event.TheVariants.{Step}
use Rattle.ds_core.specs.declared.reply.Reply.TheVariants.{Answered, Stepped, NotEnabled}
use Rattle.ds_state.specs.declared.show.ShowEnd.{ShowEnd}
use Rattle.ds_state.specs.declared.turn.Turn.{Turn}
use Rattle.ds_state.specs.declared.answer.Answer.TheVariants as answers
use Rattle.ds_crew.specs.Ends.{AfterStep}
use Rattle.ds_crew.specs.Passes.{PlainPass, with_trail}
use Rattle.ds_crew.specs.Trails.{and_event}
use Rattle.ds_crew.specs.declared.steps.Call.TheVariants.{Show}
use Rattle.ds_crew.proofs.Trails.{by_one_more}
use Rattle.ds_crew.proofs.Settles.{answered_by}
use Rattle.ds_crew.proofs.locked.LockedSheet.finish_show.Goals as goal

pub returns-in-Some-Answers-clause-happened : goal.returns-in-Some-Answers-clause-happened
returns-in-Some-Answers-clause-happened g c =
    answered_by c.args.pass.now.process c.loop.pass.process (reply_of reports.answer c.in-Some-Answers.field-0) (answers.Show c.in-Some-Answers.end) (ap (λ (pass : PlainPass). pass.process) c.loop.invariant.same)
    (ap (λ (turn : Turn ShowEnd). reply_of reports.answer turn) c.in-Some-Answers.field-0-is) c.in-Some-Answers.ensures.happened

pub returns-in-Some-Answers-clause-ends : goal.returns-in-Some-Answers-clause-ends
returns-in-Some-Answers-clause-ends g c = record {
  middle = c.loop.pass.trail;
  goes_on = c.loop.invariant.goes_on;
  is =
      c.in-Some-Answers.ensures.trail
      ∙ ap (λ (turn : Turn ShowEnd). and_event c.loop.pass.trail (Step c.loop.pass.process) (reply_of reports.answer turn)) c.in-Some-Answers.field-0-is
      ∙ ap (λ (p : ℕ). and_event c.loop.pass.trail (Step p) (Answered (reports.answer c.in-Some-Answers.end))) (ap (λ (pass : PlainPass). pass.process) c.loop.invariant.same);
}

pub loop-preserved-in-Some-GoesOn : goal.loop-preserved-in-Some-GoesOn
loop-preserved-in-Some-GoesOn g c = record {
  same =
      subst (λ (turn : Turn ShowEnd). AfterStep (cells_of c.args.self.now.layout) c.loop.pass (reply_of reports.answer turn) c.step_show.new.pass) c.in-Some-GoesOn.field-0-is c.in-Some-GoesOn.ensures.pass
      ∙ ap (λ (pass : PlainPass). with_trail pass c.step_show.new.pass.trail) c.loop.invariant.same;
  goes_on =
      by_one_more Show c.args.pass.now.process c.args.pass.now.trail c.loop.pass.trail c.step_show.new.pass.trail (Step c.loop.pass.process) Stepped c.loop.invariant.goes_on
      (ap (λ (pass : PlainPass). pass.process) c.loop.invariant.same) tt (c.in-Some-GoesOn.ensures.trail ∙ ap (λ (turn : Turn ShowEnd). and_event c.loop.pass.trail (Step c.loop.pass.process) (reply_of reports.answer turn)) c.in-Some-GoesOn.field-0-is);
}

pub loop-preserved : goal.loop-preserved
loop-preserved g c = record {
  same =
      c.in-None-step_show.ensures.pass ∙ ap (λ (pass : PlainPass). with_trail pass c.step_show.new.pass.trail) c.loop.invariant.same;
  goes_on =
      by_one_more Show c.args.pass.now.process c.args.pass.now.trail c.loop.pass.trail c.step_show.new.pass.trail (Step c.loop.pass.process) NotEnabled c.loop.invariant.goes_on
      (ap (λ (pass : PlainPass). pass.process) c.loop.invariant.same) tt c.in-None-step_show.ensures.trail;
}
