use Rattle.std.proofs.Common.{◌≡◌, map, take}
use Rattle.ds_formula.specs.Plain.{formula}
use Rattle.ds_eval.proofs.same.+sameness.Given as goal

abbrev pub invariant-same_trees-loop-i : goal.invariant-same_trees-loop-i
invariant-same_trees-loop-i l = map formula (take l.i l.left) ≡ map formula (take l.i l.right)
