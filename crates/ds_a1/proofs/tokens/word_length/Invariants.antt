use Rattle.std.proofs.Common.{◌≡◌, ◌+◌, length}
use Rattle.ds_a1.specs.Words.{word_length}
use Rattle.ds_a1.proofs.tokens.word_length.Given as goal

abbrev pub invariant-loop-rest : goal.invariant-loop-rest
invariant-loop-rest l = (l.count + word_length l.rest ≡ word_length l.text) × (l.count + length l.rest ≡ length l.text)

abbrev pub decreases-loop-rest : goal.decreases-loop-rest
decreases-loop-rest l = length l.rest
