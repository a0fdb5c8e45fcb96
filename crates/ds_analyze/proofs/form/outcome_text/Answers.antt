use Rattle.std.proofs.Common.{refl}
use Rattle.ds_cli.specs.declared.exploring.ExploreForm.TheVariants as forms
use Rattle.ds_analyze.specs.Forms.{IsUnwritten}
use Rattle.ds_analyze.proofs.HandedOn.{handed_on}
use Rattle.ds_analyze.proofs.form.outcome_text.Goals as goal

pub returns-in-Ok-clause-is : goal.returns-in-Ok-clause-is
returns-in-Ok-clause-is c = record {
  outcome = c.in_ok-outcome.outcome.now;
  there = c.in_ok-outcome.ensures.is;
  is = c.in-Ok.ensures;
}

pub returns-in_err-outcome-clause-none : goal.returns-in_err-outcome-clause-none
returns-in_err-outcome-clause-none c =
    handed_on c.from_residual.result c.in_err-outcome.field-0.0 (IsUnwritten c.args.exploration.now (forms.Outcome c.args.number)) c.from_residual.ensures.1
    (c.in_err-outcome.ensures.none (forms.Outcome c.args.number) refl)
