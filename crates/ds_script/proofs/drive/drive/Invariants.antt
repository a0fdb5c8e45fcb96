use Rattle.ds_core.specs.Own.{steps_left}
use Rattle.ds_script.specs.Doing.{Drives}
use Rattle.ds_script.specs.Plays.{Leads}
use Rattle.ds_script.specs.ScriptTurns.{IsWithin}
use Rattle.ds_script.specs.declared.turn.Left.TheVariants as left
use Rattle.ds_script.proofs.drive.drive.Given as goal

abbrev pub invariant-steps : goal.invariant-steps
invariant-steps l = record {
  leads : Leads (Drives l.process l.until) l.fn.world (Drives l.process l.until) l.world;
  within : IsWithin l.world (left.Drives l.process l.until);
}

abbrev pub decreases-steps : goal.decreases-steps
decreases-steps l = steps_left l.process l.world
