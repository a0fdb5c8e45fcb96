use Rattle.std.proofs.Common.{refl, subst, sym}
use Rattle.ds_state.specs.Value.{WorldValue}
use Rattle.ds_script.specs.Plays.{WantsStep}
use Rattle.ds_script.proofs.Driving.{wants_step}
use Rattle.ds_script.proofs.InOrder.{offers}
use Rattle.ds_script.proofs.turn.go_in_order.Goals as goal

pub step_in_order-requires-clause-wants : goal.step_in_order-requires-clause-wants
step_in_order-requires-clause-wants c =
    subst (λ (v : WorldValue). WantsStep v c.args.process) (sym (c.if-offer_own.ensures.unchanged refl)) (wants_step c.args.world.now c.args.process c.is_always_good.ensures (c.if-offer_own.ensures.none refl))

pub returns-then-offer_own : goal.returns-then-offer_own
returns-then-offer_own c =
    offers c.args.world.now c.offer_own.new.world c.args.process c.args.rest (c.if-offer_own.ensures.offered refl) c.is_always_good-then-offer_own.ensures
    c.offer_own.ensures.done c.offer_own.ensures.settled c.offer_own.ensures.reports c.requires
