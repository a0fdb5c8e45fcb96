-- No line of an exploration has a float.
use Rattle.std.proofs.Common.{◌≡◌, ℕ, List, [], ◌∷◌, map, false, refl}
use Rattle.serde_json.specs.View.{items_of}
use Rattle.serde_json.specs.Written.{has_float, items_have_float}
use Rattle.ds_explore.specs.declared.exploration.Exploration.{Exploration}
use Rattle.ds_explore.specs.declared.exploration.Outcome.{Outcome}
use Rattle.ds_explore.specs.declared.flaw.Flaw.{Flaw}
use Rattle.ds_explore_summary.specs.Lines.{figures_data, flaw_data, outcome_data}

flaws_no_float : (flaws : List Flaw) → items_have_float (items_of (map flaw_data flaws)) ≡ false
flaws_no_float [] = refl
flaws_no_float (f ∷ flaws) = flaws_no_float flaws

pub outcome_no_float : (n : ℕ) (outcome : Outcome) → has_float (outcome_data n outcome) ≡ false
outcome_no_float n outcome = rw (flaws_no_float outcome.flaws.items) refl

pub figures_no_float : (e : Exploration) → has_float (figures_data e) ≡ false
figures_no_float e = refl
