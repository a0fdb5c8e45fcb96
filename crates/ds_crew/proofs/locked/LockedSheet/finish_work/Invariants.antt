use Rattle.ds_crew.specs.Trails.{GoesOn}
use Rattle.ds_crew.specs.declared.steps.Call.TheVariants.{Work}
use Rattle.ds_crew.proofs.locked.LockedSheet.finish_work.Given as goal

abbrev pub invariant-loop : goal.invariant-loop
invariant-loop g l = GoesOn Work l.process l.fn.trail l.trail
