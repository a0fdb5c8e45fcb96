use Rattle.std.proofs.Common.{◌∙◌, ◌<◌, refl, subst, sym}
use Rattle.ds_layout.specs.declared.layout.Layout.{Layout}
use Rattle.ds_recalculation.specs.Recalculations.{begins}
use Rattle.ds_recalculation.proofs.Recalculated.{turn_free, turn_goes, turn_layout, turn_stops}
use Rattle.ds_recalculation.proofs.recalculation.work_in_order.Goals as goal

pub loop-place-init : goal.loop-place-init
loop-place-init c = record { so_far = begins; layout = refl; there = c.requires.process; free = λ h. h }

pub returns-in-Some-clause-stops : goal.returns-in-Some-clause-stops
returns-in-Some-clause-stops c =
    turn_stops c.args.process c.args.order.now c.args.world.now c.loop-place.place _ c.loop-place-test.true refl c.loop-place.world c.loop-place.invariant.so_far c.in-Some.end c.turn.new.world c.in-Some.ensures

pub returns-in-Some-clause-there : goal.returns-in-Some-clause-there
returns-in-Some-clause-there c =
    subst (λ (y : Layout). c.args.process < y.processes) (sym (turn_layout c.args.process _ c.loop-place.world c.turn.result c.turn.new.world c.turn.ensures)) c.loop-place.invariant.there

pub returns-in-Some-clause-free : goal.returns-in-Some-clause-free
returns-in-Some-clause-free c = λ h. turn_free c.args.process _ c.loop-place.world c.turn.result c.turn.new.world c.turn.ensures (c.loop-place.invariant.free h)

pub loop-place-preserved : goal.loop-place-preserved
loop-place-preserved c =
    let layout = turn_layout c.args.process _ c.loop-place.world c.turn.result c.turn.new.world c.turn.ensures in
    record {
      so_far = turn_goes c.args.process c.args.order.now c.args.world.now c.loop-place.place _ c.loop-place-test.true refl c.loop-place.world c.loop-place.invariant.so_far c.turn.new.world c.in_default.ensures;
      layout = layout ∙ c.loop-place.invariant.layout;
      there = subst (λ (y : Layout). c.args.process < y.processes) (sym layout) c.loop-place.invariant.there;
      free = λ h. turn_free c.args.process _ c.loop-place.world c.turn.result c.turn.new.world c.turn.ensures (c.loop-place.invariant.free h);
    }
