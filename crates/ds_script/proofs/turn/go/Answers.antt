use Rattle.std.proofs.Common.{refl, subst, sym}
use Rattle.ds_state.specs.Value.{WorldValue}
use Rattle.ds_script.specs.Plays.{WantsStep}
use Rattle.ds_calls.proofs.Driving.{offer_event, offer_fits}
use Rattle.ds_script.proofs.Driving.{wants_step}
use Rattle.ds_core.specs.declared.reply.Reply.TheVariants.{Stepped}
use Rattle.ds_script.specs.declared.turn.Left.TheVariants.{Drives}
use Rattle.ds_script.proofs.Turning.{offers, stays_within}
use Rattle.ds_script.proofs.turn.go.Goals as goal

pub step-requires-clause-wants : goal.step-requires-clause-wants
step-requires-clause-wants c =
    subst (λ (v : WorldValue). WantsStep v c.args.process) (sym (c.if-offer_own.ensures.unchanged refl)) (wants_step c.args.world.now c.args.process c.is_always_good.ensures (c.if-offer_own.ensures.none refl))

pub after_offer-requires : goal.after_offer-requires
after_offer-requires c =
    stays_within c.args.world.now c.offer_own.new.world
    (offer_event c.args.world.now c.offer_own.new.world c.args.process (c.if-offer_own.ensures.offered refl) c.is_always_good-then-offer_own.ensures c.offer_own.ensures.done c.offer_own.ensures.settled c.offer_own.ensures.reports)
    Stepped (Drives c.args.process c.args.until)
    (offer_fits c.args.world.now c.offer_own.new.world c.args.process (c.if-offer_own.ensures.offered refl) c.is_always_good-then-offer_own.ensures c.offer_own.ensures.done c.offer_own.ensures.settled c.offer_own.ensures.reports)
    c.requires

pub returns-then-offer_own : goal.returns-then-offer_own
returns-then-offer_own c =
    offers c.args.world.now c.offer_own.new.world c.args.process c.args.until c.after_offer.result (c.if-offer_own.ensures.offered refl) c.is_always_good-then-offer_own.ensures
    c.offer_own.ensures.done c.offer_own.ensures.settled c.offer_own.ensures.reports c.after_offer.ensures.remains c.after_offer.ensures.within c.after_offer.ensures.same
