use Rattle.std.proofs.Common.{◌≡◌, ◌+◌, length}
use Rattle.ds_crew.specs.Passes.{dones_of, settleds_of}
use Rattle.ds_crew.proofs.dealing.gather.Given as goal

abbrev pub invariant-loop-pass : goal.invariant-loop-pass
invariant-loop-pass g l = record {
  dones : l.dones.amount + dones_of l.passes.items ≡ dones_of l.fn.passes.items;
  settleds : l.settleds.amount + settleds_of l.passes.items ≡ settleds_of l.fn.passes.items;
  dones_parts : l.dones.parts + length l.passes.items ≡ length l.fn.passes.items;
  settleds_parts : l.settleds.parts + length l.passes.items ≡ length l.fn.passes.items;
}

abbrev pub decreases-loop-pass : goal.decreases-loop-pass
decreases-loop-pass g l = goal.left-loop-pass g l
