use Rattle.ds_explore.specs.Explored.{AreOutcomes}
use Rattle.ds_explore.specs.Judging.{texts_of}
use Rattle.ds_explore.proofs.exploration.all_outcomes.Given as goal

abbrev pub invariant-loop-i : goal.invariant-loop-i
invariant-loop-i l = AreOutcomes l.script l.start (texts_of l.keys.items) l.outcomes.items
