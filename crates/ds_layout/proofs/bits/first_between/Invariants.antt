use Rattle.std.proofs.Common.{◌≤◌}
use Rattle.ds_layout.specs.Bits.{HaveNoBit}
use Rattle.ds_layout.proofs.bits.first_between.Given as goal

abbrev pub invariant-loop-number : goal.invariant-loop-number
invariant-loop-number l = (l.start ≤ l.number) × HaveNoBit l.words l.start l.number
