use Rattle.std.proofs.Common.{◌≡◌, ◌+◌, ◌-◌, ◌^◌, min, map, take}
use Rattle.ds_formula.specs.Plain.{formula, listed}
use Rattle.ds_formula.specs.Sizes.{nodes_of}
use Rattle.ds_formula.proofs.content.Tree.+nodes.Given as goal

abbrev pub invariant-loop-argument : goal.invariant-loop-argument
invariant-loop-argument l = l.count ≡ min (1 + nodes_of (listed (map formula (take l.argument-index l.argument-items)))) (2 ^ 64 - 1)
