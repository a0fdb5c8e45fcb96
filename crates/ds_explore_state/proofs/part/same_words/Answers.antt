use Rattle.std.proofs.Common.{◌∙◌, sym, rules}
use Rattle.ds_explore_state.proofs.Parts.{pointwise_same}
use Rattle.ds_explore_state.proofs.part.same_words.Goals as goal

pub returns : goal.returns
returns c = λ yes. pointwise_same _ (λ x y e. search rules) _ _ (sym c.eq.ensures ∙ yes)
