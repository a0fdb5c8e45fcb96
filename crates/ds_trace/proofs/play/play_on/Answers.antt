use Rattle.std.proofs.Common.{subst}
use Rattle.std.specs.Prelude.{Option}
use Rattle.ds_script.specs.declared.turn.Left.{Left}
use Rattle.ds_script.specs.ScriptTurns.{Remains}
use Rattle.ds_trace.proofs.Trails.{none_left}
use Rattle.ds_trace.proofs.play.play_on.Goals as goal

pub returns-in-None-clause-trail : goal.returns-in-None-clause-trail
returns-in-None-clause-trail c = λ doing remains.
    none_left c.args.places.now doing c.args.world.now c.args.rows.now.items (subst (λ (o : Option Left). Remains o doing) c.in-None.is remains)
