use Rattle.std.proofs.Common.{ℕ, ◌≡◌, ◌⊎◌, inr, List}
use Rattle.ds_recalculation.specs.Plans.{IsPlan}
use Rattle.ds_script.specs.Doing.{in_order}
use Rattle.ds_trace.specs.declared.turn.NoTrace.TheVariants.{NoMemory}
use Rattle.ds_trace.specs.Trails.{BreaksOff, Trail}
use Rattle.ds_trace.proofs.Trails.{on_err, on_ok}
use Rattle.ds_trace.proofs.play.recalculate.Goals as goal

pub in_order-left-requires : goal.in_order-left-requires
in_order-left-requires c = c.in_ok-order.ensures.once.below

pub returns-clause-trail : goal.returns-clause-trail
returns-clause-trail c =
    on_ok c.play_on.result (Trail c.args.places.now (in_order c.args.world.now c.args.process c.in_ok-order.order.items) c.args.world.now c.play_on.new.world c.args.rows.now.items c.play_on.new.rows.items)
    ((order : List ℕ) × IsPlan c.args.world.now order × Trail c.args.places.now (in_order c.args.world.now c.args.process order) c.args.world.now c.play_on.new.world c.args.rows.now.items c.play_on.new.rows.items)
    (λ h. (c.in_ok-order.order.items, c.in_ok-order.ensures, h)) (c.play_on.ensures.trail (in_order c.args.world.now c.args.process c.in_ok-order.order.items) c.in_order-left.ensures.remains)

pub returns-clause-breaks_off : goal.returns-clause-breaks_off
returns-clause-breaks_off c =
    on_err c.play_on.result (BreaksOff (in_order c.args.world.now c.args.process c.in_ok-order.order.items) c.args.world.now c.args.rows.now.items)
    (λ why. (why ≡ NoMemory) ⊎ ((order : List ℕ) × IsPlan c.args.world.now order × BreaksOff (in_order c.args.world.now c.args.process order) c.args.world.now c.args.rows.now.items why))
    (λ why h. inr (c.in_ok-order.order.items, c.in_ok-order.ensures, h)) (c.play_on.ensures.breaks_off (in_order c.args.world.now c.args.process c.in_ok-order.order.items) c.in_order-left.ensures.remains)
