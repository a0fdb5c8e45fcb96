use Rattle.std.proofs.Common.{◌≡◌, ◌∙◌, ap, false, subst, sym}
use Rattle.serde_json.specs.Data.{Data}
use Rattle.serde_json.specs.Written.{compact_text, has_float}
use Rattle.ds_explore_summary.proofs.Floats.{outcome_no_float}
use Rattle.ds_explore_summary.proofs.json.outcome_text.Goals as goal

pub returns : goal.returns
returns c =
    c.in_ok-to_string.ensures.text (subst (λ (d : Data). has_float d ≡ false) (sym c.in_ok-value.ensures) (outcome_no_float c.args.number c.args.outcome.now)) ∙ ap (λ (d : Data). compact_text d) c.in_ok-value.ensures
