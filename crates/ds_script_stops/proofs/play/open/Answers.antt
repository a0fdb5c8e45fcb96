use Rattle.std.proofs.Common.{ℕ, List, [], refl, subst, sym, Some}
use Rattle.std.specs.Prelude.{Option}
use Rattle.std.proofs.lemmas.Result.{IfOk-weaker}
use Rattle.ds_recalculation.specs.Plans.{IsPlan}
use Rattle.ds_script.specs.declared.order.Command.{Command}
use Rattle.ds_script.specs.declared.drive.Until.TheVariants.{OneStep, ToAnswer}
use Rattle.ds_script.specs.Orders.{command_view}
use Rattle.ds_state.specs.Value.{world_of}
use Rattle.ds_script.specs.Doing.{Drives, in_order, settle, to_point}
use Rattle.ds_script.specs.declared.turn.Left.{Left}
use Rattle.ds_script.specs.declared.turn.Left.TheVariants as left
use Rattle.ds_script.specs.ScriptTurns.{Remains}
use Rattle.ds_script_stops.specs.Reaching.{OpensOrder}
use Rattle.ds_script_stops.proofs.Opening.{opens_at, stepless}
use Rattle.ds_script_stops.proofs.play.open.Goals as goal

pub returns-in-Settle-clause-opens : goal.returns-in-Settle-clause-opens
returns-in-Settle-clause-opens c =
    subst (λ (d : Command). OpensOrder c.args.world.now (command_view d) c.settle.result c.args.world.now) (sym c.in-Settle.is)
    ([], refl, opens_at (settle c.args.world.now c.in-Settle.process) c.args.world.now c.settle.result c.settle.ensures.remains)

pub returns-in-Recalculate-clause-opens : goal.returns-in-Recalculate-clause-opens
returns-in-Recalculate-clause-opens c =
    IfOk-weaker c.recalculate.result
    (λ (next : Option Left). (order : List ℕ) × IsPlan c.args.world.now order × Remains next (in_order c.args.world.now c.in-Recalculate.process order))
    (λ (next : Option Left). OpensOrder c.args.world.now (command_view c.args.command) next c.args.world.now)
    (λ next o. subst (λ (d : Command). OpensOrder c.args.world.now (command_view d) next c.args.world.now) (sym c.in-Recalculate.is)
    (o.0, o.1, opens_at (in_order c.args.world.now c.in-Recalculate.process o.0) c.args.world.now next o.2)) c.recalculate.ensures.opens

pub returns-in-Step-clause-opens : goal.returns-in-Step-clause-opens
returns-in-Step-clause-opens c =
    subst (λ (d : Command). OpensOrder c.args.world.now (command_view d) (Some (left.Drives c.in-Step.process OneStep)) c.args.world.now) (sym c.in-Step.is)
    ([], refl, opens_at (Drives c.in-Step.process OneStep) c.args.world.now (Some (left.Drives c.in-Step.process OneStep)) refl)

pub returns-in-RunTo-clause-opens : goal.returns-in-RunTo-clause-opens
returns-in-RunTo-clause-opens c =
    subst (λ (d : Command). OpensOrder c.args.world.now (command_view d) c.to_point.result c.args.world.now) (sym c.in-RunTo.is)
    ([], refl, opens_at (to_point c.in-RunTo.process c.in-RunTo.name ((world_of c.args.world.now).situation c.in-RunTo.process)) c.args.world.now c.to_point.result c.to_point.ensures.remains)

pub returns-in-Run-clause-opens : goal.returns-in-Run-clause-opens
returns-in-Run-clause-opens c =
    subst (λ (d : Command). OpensOrder c.args.world.now (command_view d) (Some (left.Drives c.in-Run.process ToAnswer)) c.args.world.now) (sym c.in-Run.is)
    ([], refl, opens_at (Drives c.in-Run.process ToAnswer) c.args.world.now (Some (left.Drives c.in-Run.process ToAnswer)) refl)

pub returns-in_ok-_text-in_default : goal.returns-in_ok-_text-in_default
returns-in_ok-_text-in_default c = record {
  opens = stepless c.args.world.now c.carry_out.new.world c.args.command c.in_ok-_text-in_default._text.items
      c.in_default.not-Whole c.in_default.not-Settle c.in_default.not-Recalculate c.in_default.not-Step c.in_default.not-RunTo c.in_default.not-Run c.in_ok-_text-in_default.ensures;
  within = tt;
}
