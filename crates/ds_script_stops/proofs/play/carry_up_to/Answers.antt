use Rattle.std.proofs.Common.{subst}
use Rattle.std.specs.Prelude.{Option}
use Rattle.ds_script.specs.Orders.{command_view}
use Rattle.ds_script.specs.declared.turn.Left.{Left}
use Rattle.ds_script_stops.specs.Reaching.{OpensOrder}
use Rattle.ds_script_stops.proofs.Carrying.{carried_on}
use Rattle.ds_script_stops.proofs.play.carry_up_to.Goals as goal

pub returns-in-Some : goal.returns-in-Some
returns-in-Some c =
    carried_on (command_view c.args.command) c.args.world.now c.open.new.world c.play.new.world c.in-Some.left c.args.taken c.before-taken.result c.args.last c.play.result c.before-taken.ensures
    (subst (λ (o : Option Left). OpensOrder c.args.world.now (command_view c.args.command) o c.open.new.world) c.in-Some.is c.in_ok-left.ensures.opens) c.play.ensures
