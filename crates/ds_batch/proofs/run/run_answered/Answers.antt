use Rattle.std.proofs.Common.{refl, subst, sym}
use Rattle.ds_batch.specs.Answers.{IsInForm}
use Rattle.ds_batch.specs.declared.refusals.AnswerForm.{AnswerForm}
use Rattle.ds_batch.proofs.run.run_answered.Goals as goal

pub returns-in-Words : goal.returns-in-Words
returns-in-Words g c some =
    let ran = c.run_script.ensures.outcome some in
    (ran.0, ran.1, ran.1, ran.2, ran.3, ran.4, subst (λ (form : AnswerForm). IsInForm form ran.0 ran.1 ran.1) (sym c.in-Words.is) refl)

pub returns-in-Json : goal.returns-in-Json
returns-in-Json g c some =
    let ran = c.run_script_in_json.ensures.outcome some in
    (ran.0, ran.1, ran.2, ran.4, ran.5, ran.6, subst (λ (form : AnswerForm). IsInForm form ran.0 ran.1 ran.2) (sym c.in-Json.is) (ran.3, ran.7))
