use Rattle.std.proofs.Common.{◌≤◌, ◌-◌}
use Rattle.ds_layout.specs.Bits.{HaveNoBit}
use Rattle.ds_layout.proofs.bits.first_bit.Given as goal

abbrev pub invariant-loop-number : goal.invariant-loop-number
invariant-loop-number l = (l.start ≤ l.number) × HaveNoBit l.words l.start l.number

abbrev pub decreases-loop-number : goal.decreases-loop-number
decreases-loop-number l = l.end - l.number
