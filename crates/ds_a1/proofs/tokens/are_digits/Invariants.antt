use Rattle.std.proofs.Common.{◌≡◌, length}
use Rattle.ds_a1.specs.Tokens.{are_digits}
use Rattle.ds_a1.proofs.tokens.are_digits.Given as goal

abbrev pub invariant-loop-rest : goal.invariant-loop-rest
invariant-loop-rest l = are_digits l.rest ≡ are_digits l.text

abbrev pub decreases-loop-rest : goal.decreases-loop-rest
decreases-loop-rest l = length l.rest
