use Rattle.std.proofs.Common.{ℕ, List, subst}
use Rattle.ds_state.specs.Text.{IsText}
use Rattle.ds_state.proofs.Padded.{text_within}
use Rattle.ds_state.proofs.text.Text.is_always_a_text.Goals as goal

pub returns : goal.returns
returns c = subst (λ (xs : List ℕ). IsText xs) c.self.view_is (text_within c.self.inside.bytes c.self.inside.len c.self.invariant)
