use Rattle.std.proofs.Common.{◌<◌, subst}
use Rattle.std.specs.Prelude.{Option, IfSome}
use Rattle.ds_script.specs.declared.turn.Left.{Left}
use Rattle.ds_script.specs.ScriptTurns.{Remains, IsWithin, doing_of, events_to_step}
use Rattle.ds_script.specs.Doing.{told}
use Rattle.ds_script_stops.proofs.Playing.{sets_out, on_way, is_over, stands, below_by, fewer}
use Rattle.ds_script_stops.proofs.play.play.Goals as goal

pub turns-init : goal.turns-init
turns-init c = record { way = sets_out c.args.first c.args.world.now c.args.before; within = c.requires.within; below = c.requires.below }

pub returns-then-taken-last : goal.returns-then-taken-last
returns-then-taken-last c =
    stands (doing_of c.args.first) c.args.world.now c.turns.world c.take_turn-stepped.new.world c.args.before c.turns.taken c.count-taken.result c.turns.left c.take_turn-stepped.result
    c.turns.invariant.way c.take_turn-stepped.ensures c.count-taken.ensures c.args.last c.turns.invariant.below c.if-taken-last.true

pub turns-preserved : goal.turns-preserved
turns-preserved c = record {
  way = on_way (doing_of c.args.first) c.args.world.now c.turns.world c.take_turn-stepped.new.world c.args.before c.turns.taken c.count-taken.result c.turns.left c.take_turn-stepped.result
      c.turns.invariant.way c.take_turn-stepped.ensures c.count-taken.ensures c.in-Some.next
      (subst (λ (o : Option Left). Remains o (told (doing_of c.turns.left) c.take_turn-stepped.ensures.event c.take_turn-stepped.result.reply c.take_turn-stepped.new.world)) c.in-Some.is c.take_turn-stepped.ensures.remains);
  within = subst (λ (o : Option Left). IfSome o (IsWithin c.take_turn-stepped.new.world)) c.in-Some.is c.take_turn-stepped.ensures.within;
  below = below_by c.take_turn-stepped.result.stepped c.turns.taken c.count-taken.result c.args.last c.count-taken.ensures c.turns.invariant.below c.if-taken-last.false;
}

pub turns-smaller : goal.turns-smaller
turns-smaller c =
    fewer c.turns.world c.take_turn-stepped.new.world c.turns.left c.in-Some.next c.take_turn-stepped.result c.turns.taken c.count-taken.result c.args.last c.count-taken.ensures
    (below_by c.take_turn-stepped.result.stepped c.turns.taken c.count-taken.result c.args.last c.count-taken.ensures c.turns.invariant.below c.if-taken-last.false)
    (λ none. subst (λ (o : Option Left). IfSome o (λ next. events_to_step c.take_turn-stepped.new.world next < events_to_step c.turns.world c.turns.left)) c.in-Some.is (c.take_turn-stepped.ensures.nearer none))

pub returns-in-None : goal.returns-in-None
returns-in-None c = (
  is_over (doing_of c.args.first) c.args.world.now c.turns.world c.take_turn-stepped.new.world c.args.before c.turns.taken c.count-taken.result c.turns.left c.take_turn-stepped.result
      c.turns.invariant.way c.take_turn-stepped.ensures c.count-taken.ensures
      (subst (λ (o : Option Left). Remains o (told (doing_of c.turns.left) c.take_turn-stepped.ensures.event c.take_turn-stepped.result.reply c.take_turn-stepped.new.world)) c.in-None.is c.take_turn-stepped.ensures.remains),
  below_by c.take_turn-stepped.result.stepped c.turns.taken c.count-taken.result c.args.last c.count-taken.ensures c.turns.invariant.below c.if-taken-last.false,
)
