use Rattle.std.proofs.Common.{subst}
use Rattle.std.specs.Prelude.{Option, IfSome}
use Rattle.ds_script.specs.declared.turn.Left.{Left}
use Rattle.ds_script.specs.ScriptTurns.{IsWithin, doing_of}
use Rattle.ds_trace.specs.Trails.{BreaksOff}
use Rattle.ds_trace.proofs.Trails.{breaks_turn, handed_on, sets_out, goes_on, is_over}
use Rattle.ds_trace.proofs.play.play.Goals as goal

pub turns-init : goal.turns-init
turns-init c = record { way = sets_out c.args.places.now (doing_of c.args.first) c.args.world.now c.args.rows.now.items; within = c.requires }

pub turns-preserved : goal.turns-preserved
turns-preserved c = record {
  way = goes_on c.args.places.now (doing_of c.args.first) c.turns.left c.in_ok-next.field-0 c.args.world.now c.turns.world c.take_turn.new.world c.args.rows.now.items c.turns.rows.items c.take_turn.new.rows.items
      c.turns.invariant.way c.in_ok-next.ensures.turn c.in-Some.next c.in-Some.is;
  within = subst (λ (o : Option Left). IfSome o (IsWithin c.take_turn.new.world)) c.in-Some.is c.in_ok-next.ensures.turn.within;
}

pub returns-in-None-clause-trail : goal.returns-in-None-clause-trail
returns-in-None-clause-trail c =
    is_over c.args.places.now (doing_of c.args.first) c.turns.left c.in_ok-next.field-0 c.args.world.now c.turns.world c.take_turn.new.world c.args.rows.now.items c.turns.rows.items c.take_turn.new.rows.items
    c.turns.invariant.way c.in_ok-next.ensures.turn c.in-None.is

pub returns-in_err-next-clause-breaks_off : goal.returns-in_err-next-clause-breaks_off
returns-in_err-next-clause-breaks_off c =
    handed_on c.from_residual.result c.in_err-next.field-0.0 (BreaksOff (doing_of c.args.first) c.args.world.now c.args.rows.now.items) c.from_residual.ensures.1
    (breaks_turn c.args.places.now (doing_of c.args.first) c.turns.left c.args.world.now c.turns.world c.args.rows.now.items c.turns.rows.items c.in_err-next.field-0.0 c.turns.invariant.way c.in_err-next.ensures.full)
