use Rattle.ds_explore.specs.Met.{AreOnWay}
use Rattle.ds_explore.proofs.met.Meeting.on_way.Given as goal

abbrev pub invariant-loop-by : goal.invariant-loop-by
invariant-loop-by l = AreOnWay l.self.start.now l.self.states.now l.marks.items l.position
