use Rattle.std.proofs.Common.{List, ℕ, refl, subst}
use Rattle.ds_cli.specs.declared.exploring.ExploreForm.TheVariants as forms
use Rattle.ds_trace_picture.specs.Drawing.{Draws, PICTURE_MOST}
use Rattle.ds_trace_picture.specs.declared.script.PictureEnd.TheVariants as drawn
use Rattle.ds_analyze.specs.Forms.{IsUnwritten, LacksPicture}
use Rattle.ds_analyze.proofs.HandedOn.{handed_on}
use Rattle.ds_analyze.proofs.form.outcome_picture.Goals as goal

pub returns-in-Ok-clause-is : goal.returns-in-Ok-clause-is
returns-in-Ok-clause-is c = record {
  outcome = c.in_ok-outcome.outcome.now;
  there = c.in_ok-outcome.ensures.is;
  draws = subst (λ (s : List ℕ). Draws PICTURE_MOST s drawn.Drawn c.in-Ok.text.items) c.deref.ensures.value c.in-Ok.ensures.drawn;
}

pub returns-in-Err-clause-none : goal.returns-in-Err-clause-none
returns-in-Err-clause-none c =
    (c.in_ok-outcome.outcome.now, c.in_ok-outcome.ensures.is, subst (λ (s : List ℕ). LacksPicture s c.in-Err.end) c.deref.ensures.value c.in-Err.ensures.lacks)

pub returns-in_err-outcome-clause-none : goal.returns-in_err-outcome-clause-none
returns-in_err-outcome-clause-none c =
    handed_on c.from_residual.result c.in_err-outcome.field-0.0 (IsUnwritten c.args.exploration.now (forms.Picture c.args.number)) c.from_residual.ensures.1
    (c.in_err-outcome.ensures.none (forms.Picture c.args.number) refl)
