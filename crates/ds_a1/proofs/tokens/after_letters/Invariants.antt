use Rattle.std.proofs.Common.{◌≡◌, length}
use Rattle.ds_a1.specs.Tokens.{after_letters}
use Rattle.ds_a1.proofs.tokens.after_letters.Given as goal

abbrev pub invariant-loop-rest : goal.invariant-loop-rest
invariant-loop-rest l = after_letters l.rest ≡ after_letters l.text

abbrev pub decreases-loop-rest : goal.decreases-loop-rest
decreases-loop-rest l = length l.rest
