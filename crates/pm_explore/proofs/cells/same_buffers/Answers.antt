use Rattle.std.proofs.Common.{◌∙◌, sym, rules}
use Rattle.pm_explore.proofs.Lists.{pointwise_same}
use Rattle.pm_explore.proofs.cells.same_buffers.Goals as goal

pub returns : goal.returns
returns c = λ yes. pointwise_same _ (pointwise_same _ (λ x y e. search rules)) _ _ (sym c.eq.ensures ∙ yes)
