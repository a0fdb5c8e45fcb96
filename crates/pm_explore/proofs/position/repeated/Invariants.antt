use Rattle.std.proofs.Common.{◌≡◌, replicate}
use Rattle.pm_explore.proofs.position.repeated.Given as goal

abbrev pub invariant-loop-i : goal.invariant-loop-i
invariant-loop-i g l = l.list.items ≡ replicate l.i l.value
