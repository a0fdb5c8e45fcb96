use Rattle.std.proofs.Common.{◌≡◌, length}
use Rattle.ds_explore.specs.Judging.{AreRecoveries}
use Rattle.ds_explore.proofs.ends.recover.Given as goal

abbrev pub invariant-loop-process : goal.invariant-loop-process
invariant-loop-process l = record {
  are : AreRecoveries l.fn.world l.resolved.items l.text.items l.world;
  count : length l.resolved.items ≡ l.process;
}
