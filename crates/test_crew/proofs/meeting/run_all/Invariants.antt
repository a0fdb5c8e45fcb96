use Rattle.std.proofs.Common.{◌<◌, length}
use Rattle.test_crew.proofs.meeting.run_all.Given as goal

abbrev pub invariant-loop-index : goal.invariant-loop-index
invariant-loop-index g l = 0 < length l.passes.items
