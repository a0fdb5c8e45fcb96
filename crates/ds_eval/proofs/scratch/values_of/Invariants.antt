use Rattle.std.proofs.Common.{◌≡◌, map, take}
use Rattle.ds_eval.specs.Rounds.{value_of_input}
use Rattle.ds_eval.proofs.scratch.values_of.Given as goal

abbrev pub invariant-loop-input : goal.invariant-loop-input
invariant-loop-input l = l.values.items ≡ map value_of_input (take l.input-index l.input-items)
