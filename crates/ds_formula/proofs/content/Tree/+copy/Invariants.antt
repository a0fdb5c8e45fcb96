use Rattle.std.proofs.Common.{◌≡◌, map, take}
use Rattle.ds_formula.specs.Plain.{formula}
use Rattle.ds_formula.proofs.content.Tree.+copy.Given as goal

abbrev pub invariant-loop-argument : goal.invariant-loop-argument
invariant-loop-argument l = map formula l.copies.items ≡ map formula (take l.argument-index l.argument-items)
