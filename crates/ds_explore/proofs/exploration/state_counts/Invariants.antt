use Rattle.std.proofs.Common.{◌≡◌, length}
use Rattle.ds_explore.proofs.exploration.state_counts.Given as goal

abbrev pub invariant-loop-number : goal.invariant-loop-number
invariant-loop-number l = length l.counts.items ≡ l.number
