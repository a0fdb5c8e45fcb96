-- Offers and steps of a process that is driven.
use Rattle.std.proofs.Common.{ℕ, ◌≡◌, ◌<◌, refl, sym, ap, ◌∙◌, Some, arith, inl, inr}
use Rattle.std.specs.Prelude.{Option, None, IfSome}
use Rattle.std.proofs.lemmas.Bool.{cases_lt}
use Rattle.std.proofs.lemmas.List.{get_or_past}
use Rattle.ds_eval.specs.declared.inputs.Entry.{Entry}
use Rattle.ds_state.specs.Value.{WorldValue, world_of, IsGood, first_rest}
use Rattle.ds_state.specs.Works.{PlainWorkCall}
use Rattle.ds_state.specs.declared.situation.Situation.TheVariants.{Idle, Working}
use Rattle.ds_work.specs.WorkTakes.{Waits, IsOffered}
use Rattle.ds_core.specs.declared.event.Event.{Event}
use Rattle.ds_calls.proofs.Driving as calls
use Rattle.ds_calls.proofs.Driving.{offer_event, offer_wanted}
use Rattle.ds_script.specs.declared.drive.Until.{Until}
use Rattle.ds_script.specs.Doing.{Drives, asks}
use Rattle.ds_script.specs.Plays.{WantsStep}

-- ---- an offer

module _ (old new : WorldValue) (p : ℕ) (until : Until) (given : (entry : Entry) × IsOffered (world_of old) p entry (world_of new)) (good : IsGood new) (done : new.done ≡ old.done) (settled : new.settled ≡ old.settled) (reports : new.reports ≡ old.reports) where
  abbrev event : Event
  event = offer_event old new p given good done settled reports

  pub offer_asked : asks (Drives p until) old ≡ Some event
  offer_asked = ap (λ (e : Event). Some e) (offer_wanted old new p given good done settled reports)

-- ---- a step

-- the process is one of the sheet
inside : (v : WorldValue) (p : ℕ) (e : PlainWorkCall) → IsGood v → (world_of v).situation p ≡ Working e → p < v.sheet.layout.processes
inside v p e good is = elim (cases_lt p v.sheet.layout.processes) [
  | inl lt ↦ lt
  | inr ge ↦ absurd (let bad : Idle first_rest ≡ Working e = sym (get_or_past v.situations p (Idle first_rest) (let n = good.situations in omega arith)) ∙ is in cc)
]

-- in a good world a process whose work doesn't wait wants a step
pub wants_step : (v : WorldValue) (p : ℕ) → IsGood v → ((e : PlainWorkCall) → Waits (world_of v) p e → ⊥) → WantsStep v p
wants_step v p good none = calls.wants_step v p (λ e works waits. none e (record { inside = inside v p e good works; works = works; waits = waits }))

-- ---- options

-- what follows from what holds of what is there holds of it, too
pub if_some : {A : Type 0} (r : Option A) (P Q : A → Type 0) → ((x : A) → P x → Q x) → IfSome r P → IfSome r Q
if_some (Some x) P Q f h = f x h
if_some None P Q f h = tt
