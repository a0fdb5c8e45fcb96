use Rattle.std.proofs.Common.{◌≡◌, ◌-◌, ◌^◌, min, map, take}
use Rattle.ds_formula.specs.Plain.{formula, listed}
use Rattle.ds_formula.specs.Sizes.{depth_of}
use Rattle.ds_formula.proofs.content.Tree.+depth.Given as goal

abbrev pub invariant-loop-argument : goal.invariant-loop-argument
invariant-loop-argument l = l.deepest ≡ min (depth_of (listed (map formula (take l.argument-index l.argument-items)))) (2 ^ 64 - 1)
