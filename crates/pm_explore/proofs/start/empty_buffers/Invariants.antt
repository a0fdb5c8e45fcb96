use Rattle.std.proofs.Common.{◌≡◌, replicate, []}
use Rattle.pm_explore.proofs.start.empty_buffers.Given as goal

abbrev pub invariant-loop-i : goal.invariant-loop-i
invariant-loop-i l = l.list.items ≡ replicate l.i []
