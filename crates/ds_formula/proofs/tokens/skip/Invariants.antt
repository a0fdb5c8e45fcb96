use Rattle.std.proofs.Common.{◌≡◌, ◌≤◌, length}
use Rattle.ds_formula.specs.Bytes.{skipped}
use Rattle.ds_formula.proofs.tokens.skip.Given as goal

abbrev pub invariant-loop-rest : goal.invariant-loop-rest
invariant-loop-rest l = (skipped l.rest ≡ skipped l.text) × (length l.rest ≤ length l.text)

abbrev pub decreases-loop-rest : goal.decreases-loop-rest
decreases-loop-rest l = length l.rest
