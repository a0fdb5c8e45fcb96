use Rattle.std.proofs.Common.{◌≡◌, take}
use Rattle.ds_state.proofs.copies.all_copied.Given as goal

abbrev pub invariant-loop-situation : goal.invariant-loop-situation
invariant-loop-situation l = l.copies.items ≡ take l.situation-index l.situation-items
