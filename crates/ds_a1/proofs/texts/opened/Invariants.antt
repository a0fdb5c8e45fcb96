use Rattle.std.proofs.Common.{◌≡◌, ◌++◌, false, length}
use Rattle.ds_a1.specs.Tokens.{tokens}
use Rattle.ds_a1.specs.Notation.{opened}
use Rattle.ds_a1.proofs.texts.opened.Given as goal

abbrev pub invariant-loop-rest : goal.invariant-loop-rest
invariant-loop-rest l = l.open.items ++ opened l.second (tokens l.rest) ≡ opened false (tokens l.text)

abbrev pub decreases-loop-rest : goal.decreases-loop-rest
decreases-loop-rest l = length l.rest
