use Rattle.std.proofs.Common.{◌≡◌, length}
use Rattle.test_crew.proofs.answers.rows_right.Given as goal

abbrev pub invariant-loop-place : goal.invariant-loop-place
invariant-loop-place g l = length l.passes ≡ length l.fn.passes
