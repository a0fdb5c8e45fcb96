use Rattle.ds_state.proofs.Padded.{padded_empty}
use Rattle.ds_state.proofs.text.Text.empty.Goals as goal

pub invariant_of-result : goal.invariant_of-result
invariant_of-result c = padded_empty
