use Rattle.std.proofs.Common.{arith}
use Rattle.ds_state.proofs.Padded.{padded_new}
use Rattle.ds_state.proofs.text.Text.new.Goals as goal

pub invariant_of-result : goal.invariant_of-result
invariant_of-result c = padded_new c.args.bytes.now c.copy_from_slice.new.self c.copy_from_slice.ensures.after (λ k. let fits = c.type_inv.bytes k in omega arith) (omega arith)
