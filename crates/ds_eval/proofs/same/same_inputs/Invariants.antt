use Rattle.std.proofs.Common.{◌≡◌, take}
use Rattle.ds_eval.proofs.same.same_inputs.Given as goal

abbrev pub invariant-loop-i : goal.invariant-loop-i
invariant-loop-i l = take l.i l.left ≡ take l.i l.right
