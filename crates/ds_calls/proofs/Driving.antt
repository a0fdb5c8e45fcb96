-- Offers to a work that waits, and what a process wants that does not wait.
use Rattle.std.proofs.Common.{ℕ, ◌≡◌, ◌<◌, refl, sym, ap, ◌∙◌, subst, arith}
use Rattle.ds_eval.specs.declared.inputs.Entry.{Entry}
use Rattle.ds_state.specs.Value.{WorldValue, world_of, IsGood}
use Rattle.ds_state.specs.Works.{PlainWorkCall}
use Rattle.ds_state.specs.declared.situation.Situation.{Situation}
use Rattle.ds_state.specs.declared.situation.Situation.TheVariants.{Working}
use Rattle.ds_state.specs.declared.work.WorkStage.{WorkStage}
use Rattle.ds_state.specs.declared.work.WorkStage.TheVariants.{Wait}
use Rattle.ds_work.specs.WorkSteps as steps
use Rattle.ds_work.specs.WorkTakes.{Waits, IsOffered}
use Rattle.ds_work.specs.WorkRank as ranks
use Rattle.ds_work.proofs.Ranks.{offer_falls}
use Rattle.ds_core.specs.Own.{IsInCall, left_in, steps_left}
use Rattle.ds_core.specs.Takes.{Fits}
use Rattle.ds_core.specs.declared.event.Event.{Event}
use Rattle.ds_core.specs.declared.event.Event.TheVariants.{Step, Offer}
use Rattle.ds_core.specs.declared.reply.Reply.TheVariants.{Stepped}
use Rattle.ds_calls.specs.Wanted.{wanted, wanted_at, wants, evaluated}
use Rattle.ds_core.specs.Kinds.{AnswersTo}
use Rattle.ds_calls.specs.Driven.{GoesOn}

-- ---- an offer

module _ (old new : WorldValue) (p : ℕ) (given : (entry : Entry) × IsOffered (world_of old) p entry (world_of new)) (good : IsGood new) (done : new.done ≡ old.done) (settled : new.settled ≡ old.settled) (reports : new.reports ≡ old.reports) where
  abbrev pub offer_event : Event
  offer_event = Offer (evaluated old.sheet.layout.shape given.1.work)

  pub offer_wanted : wants old p ≡ offer_event
  offer_wanted =
      ap (λ (s : Situation). wanted p old.sheet.layout.shape s) given.1.waits.works
      ∙ ap (λ (s : WorkStage). wanted_at p old.sheet.layout.shape given.1.work s) given.1.waits.waits

  pub offer_fits : Fits old offer_event Stepped new
  offer_fits = record {
    takes = record {
      waited = record { work = given.1.work; waits = subst (λ (q : ℕ). Waits (world_of old) q given.1.work) (sym given.1.mine) given.1.waits; is = refl };
      offered = record {
        work = given.1.work;
        waits = subst (λ (q : ℕ). Waits (world_of old) q given.1.work) (sym given.1.mine) given.1.waits;
        mine = refl;
        offers = subst (λ (x : Entry). steps.OffersAt given.1.work x (world_of old) (world_of new)) given.1.offers.is given.1.offers;
      };
      done = done;
      reports = record { settled = settled; reports = reports };
    };
    good = good;
  }

  behind : (world_of new).situation p ≡ Working (steps.offered given.1.work given.0)
  behind = ap (λ (q : ℕ). (world_of new).situation q) (sym given.1.mine) ∙ given.1.offers.turn.situation

  pub offer_goes : GoesOn old p new
  offer_goes = record {
    fits = subst (λ (e : Event). Fits old e Stepped new) (sym offer_wanted) offer_fits;
    calling = record { there = subst (λ n. p < n) (sym (ap (λ y. y.processes) given.1.offers.turn.layout)) given.1.waits.inside; calls = subst IsInCall (sym behind) tt };
    same = λ answer h. subst (λ (s : Situation). AnswersTo s answer) (sym given.1.waits.works) (subst (λ (s : Situation). AnswersTo s answer) behind h);
  }

  pub offer_fewer : steps_left p new < steps_left p old
  offer_fewer =
      let w : PlainWorkCall = given.1.work in
      let now : steps_left p new ≡ left_in (Working (steps.offered w given.0)) = ap left_in behind in
      let before : steps_left p old ≡ ranks.left w.cells w Wait =
      ap left_in given.1.waits.works ∙ ap (λ (s : WorkStage). ranks.left w.cells w s) given.1.waits.waits in
      let few = offer_falls w.cells w given.0 in
      omega (arith, now, before, few)

-- ---- a step

wants_at : (v : WorldValue) (p : ℕ) (e : PlainWorkCall) (s : WorkStage) → e.stage ≡ s → (e.stage ≡ Wait → ⊥) → wanted_at p v.sheet.layout.shape e s ≡ Step p
wants_at v p e Wait is none = absurd (none is)
wants_at v p e s is none = refl

wants_in : (v : WorldValue) (p : ℕ) (s : Situation) → (world_of v).situation p ≡ s → ((e : PlainWorkCall) → (world_of v).situation p ≡ Working e → e.stage ≡ Wait → ⊥) → wanted p v.sheet.layout.shape s ≡ Step p
wants_in v p (Working e) is none = wants_at v p e e.stage refl (none e is)
wants_in v p s is none = refl

-- a process whose work doesn't wait wants a step
pub wants_step : (v : WorldValue) (p : ℕ) → ((e : PlainWorkCall) → (world_of v).situation p ≡ Working e → e.stage ≡ Wait → ⊥) → wants v p ≡ Step p
wants_step v p none = wants_in v p ((world_of v).situation p) refl none
