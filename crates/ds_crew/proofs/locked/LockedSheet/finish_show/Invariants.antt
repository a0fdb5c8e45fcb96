use Rattle.std.proofs.Common.{◌≡◌}
use Rattle.ds_crew.specs.Passes.{with_trail}
use Rattle.ds_crew.specs.Trails.{GoesOn}
use Rattle.ds_crew.specs.declared.steps.Call.TheVariants.{Show}
use Rattle.ds_crew.proofs.locked.LockedSheet.finish_show.Given as goal

abbrev pub invariant-loop : goal.invariant-loop
invariant-loop g l = record {
  same : l.pass ≡ with_trail l.fn.pass l.pass.trail;
  goes_on : GoesOn Show l.fn.pass.process l.fn.pass.trail l.pass.trail;
}
