use Rattle.ds_crew.specs.Trails.{GoesOn}
use Rattle.ds_crew.specs.declared.steps.Call.TheVariants.{Recovery}
use Rattle.ds_crew.proofs.locked.LockedSheet.finish_recovery.Given as goal

abbrev pub invariant-loop : goal.invariant-loop
invariant-loop g l = GoesOn Recovery l.process l.fn.trail l.trail
