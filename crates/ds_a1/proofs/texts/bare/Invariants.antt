use Rattle.std.proofs.Common.{◌≡◌, ◌++◌, length}
use Rattle.ds_a1.specs.Notation.{bare}
use Rattle.ds_a1.proofs.texts.bare.Given as goal

abbrev pub invariant-loop-rest : goal.invariant-loop-rest
invariant-loop-rest l = l.shown.items ++ bare l.rest ≡ bare l.text

abbrev pub decreases-loop-rest : goal.decreases-loop-rest
decreases-loop-rest l = length l.rest
