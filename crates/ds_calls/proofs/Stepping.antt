-- A step of a call: it goes on, or it is answered.
use Rattle.std.specs.Prelude.{Bool, true, false, IsTrue, IsFalse}
use Rattle.std.proofs.Common.{ℕ, ◌≡◌, ◌≢◌, ◌<◌, ◌+◌, ◌/◌, refl, sym, ap, ◌∙◌, subst}
use Rattle.ds_state.specs.Value.{WorldValue, world_of, IsGood}
use Rattle.ds_state.specs.Sound.{IsSound}
use Rattle.ds_state.specs.Works.{PlainWorkCall}
use Rattle.ds_state.specs.declared.refusal.Refusal.{Refusal}
use Rattle.ds_state.specs.declared.situation.Situation.{Situation}
use Rattle.ds_state.specs.declared.situation.Situation.TheVariants.{Idle, Stopped, Editing, Working, Recovering, Showing, Migrating}
use Rattle.ds_state.specs.declared.work.WorkStage.TheVariants as work_stages
use Rattle.ds_state.specs.declared.answer.Answer.{Answer}
use Rattle.ds_work.specs.WorkTakes as work_events
use Rattle.ds_state.specs.World.{PlainWorld}
use Rattle.ds_work.specs.WorkSteps.{IsPlainStep}
use Rattle.ds_state.specs.declared.turn.Turn.{Turn}
use Rattle.ds_state.specs.declared.turn.Turn.TheVariants as turns
use Rattle.ds_state.specs.declared.work.WorkEnd.{WorkEnd}
use Rattle.ds_core.specs.StepEvents.{Rests, StepsBy, edits, works, reports, recoveries, migrations}
use Rattle.ds_core.specs.Ends.{IsCallOf, Kind}
use Rattle.ds_core.specs.Replies.{reply_of}
use Rattle.ds_core.proofs.Counts.{falls_by}
use Rattle.ds_core.specs.Own.{steps_left}
use Rattle.ds_core.specs.Takes.{Fits}
use Rattle.ds_core.specs.declared.event.Event.{Event}
use Rattle.ds_core.specs.declared.event.Event.TheVariants.{Step}
use Rattle.ds_core.specs.declared.reply.Reply.{Reply}
use Rattle.ds_core.specs.declared.reply.Reply.TheVariants.{Begun, Entered, Refused, Stepped, Answered, NotEnabled}
use Rattle.ds_core.proofs.Bound.{same_layout}
use Rattle.ds_core.proofs.CallKinds.{step_stays, step_ends}
use Rattle.ds_calls.specs.Wanted.{wants}
use Rattle.ds_calls.specs.Whole.{HasBegun, IsCalling, IsCallingAs}
use Rattle.ds_calls.specs.Driven.{CanGoOn, IsNotWaiting, GoesOn, IsAnswered, Went, ended}
use Rattle.ds_calls.proofs.Driving.{wants_step}

-- ---- a step is what the process wants

-- a work that takes a turn does not wait
never_waits : (e : PlainWorkCall) (old new : PlainWorld) (what : Turn WorkEnd) → work_events.TakesTurn e old new what → e.stage ≡ work_stages.Wait → ⊥
never_waits e old new what (work_events.steps word s none) is = subst IsPlainStep is s.plain
never_waits e old new what (work_events.reads content inputs at r) is = absurd (let bad : work_stages.Read ≡ work_stages.Wait = sym at ∙ is in cc)
never_waits e old new what (work_events.lacked at l) is = absurd (let bad : work_stages.Read ≡ work_stages.Wait = sym at ∙ is in cc)
never_waits e old new what (work_events.answers end at s) is = absurd (let bad : work_stages.Answer end ≡ work_stages.Wait = sym at ∙ is in cc)

not_waiting : (old new : WorldValue) (p : ℕ) (reply : Reply) → StepsBy old p reply new → (e : PlainWorkCall) → (world_of old).situation p ≡ Working e → e.stage ≡ work_stages.Wait → ⊥
not_waiting old new p reply (edits h) e at waits = absurd (let bad : Editing h.steps.edit ≡ Working e = sym h.steps.at ∙ at in cc)
not_waiting old new p reply (works h) e at waits =
    let same : Working h.steps.work ≡ Working e = sym h.steps.works ∙ at in
    let is : h.steps.work ≡ e = cc in
    never_waits h.steps.work (world_of old) (world_of new) h.what h.steps.turn (ap (λ (w : PlainWorkCall). w.stage) is ∙ waits)
not_waiting old new p reply (reports h) e at waits = absurd (let bad : Showing h.steps.show ≡ Working e = sym h.steps.at ∙ at in cc)
not_waiting old new p reply (recoveries h) e at waits = absurd (let bad : Recovering h.steps.recovery ≡ Working e = sym h.steps.at ∙ at in cc)
not_waiting old new p reply (migrations h) e at waits = absurd (let bad : Migrating h.steps.migration ≡ Working e = sym h.steps.at ∙ at in cc)

-- a process whose step is answered wanted a step
pub answered_wants : (old new : WorldValue) (p : ℕ) (answer : Answer) → Fits old (Step p) (Answered answer) new → wants old p ≡ Step p
answered_wants old new p answer fits = wants_step old p (not_waiting old new p (Answered answer) fits.takes)

-- ---- a step that goes on, and one that answers

-- a step that is replied Stepped leaves a process in its call
pub step_goes : (old new : WorldValue) (p : ℕ) → IsSound (world_of old) → IsCalling old p → Fits old (Step p) Stepped new → GoesOn old p new
step_goes old new p sound calling fits =
    let s = step_stays old new p sound fits.takes in
    record {
      fits = subst (λ (e : Event). Fits old e Stepped new) (sym (wants_step old p (not_waiting old new p Stepped fits.takes))) fits;
      calling = record { there = subst (λ (n : ℕ). p < n) (sym (ap (λ y. y.processes) (same_layout old new (Step p) Stepped fits.takes))) calling.there; calls = s.calls };
      same = s.same;
    }

pub step_answers : (old new : WorldValue) (p : ℕ) (answer : Answer) → Fits old (Step p) (Answered answer) new → IsAnswered old p answer new
step_answers old new p answer fits = let g = step_ends old new p answer fits.takes in record { fits = fits; to = g.to; rests = g.rests }

-- ---- a process in a call of this kind that makes no step of one waits

-- a process in a call of a kind that can make no step of one has a work that waits
pub must_wait : (kind : Answer → Type 0) (old new : WorldValue) (p : ℕ) → IsCallingAs kind old p → Rests (IsCallOf kind) old p new → IsNotWaiting old p → ⊥
must_wait kind old new p calling rests none =
    let w = rests.waits calling.there calling.calls in
    none w.0 (record { inside = calling.there; works = w.1; waits = w.2 })

-- ---- a call whose begin was not refused

pub has_begun : (kind : Answer → Type 0) (v : WorldValue) (p : ℕ) (reply : Reply) → CanGoOn kind v p reply → ((why : Refusal) → reply ≢ Refused why) → HasBegun reply × IsCallingAs kind v p
has_begun kind v p (Begun number) can none = (tt, can)
has_begun kind v p Entered can none = (tt, can)
has_begun kind v p (Refused why) can none = absurd (none why refl)
has_begun kind v p _ can none = absurd can

-- a process that goes on stays in a call of this kind
pub calls_on : (kind : Answer → Type 0) (old new : WorldValue) (p : ℕ) → IsCallingAs kind old p → GoesOn old p new → IsCallingAs kind new p
calls_on kind old new p calling goes = record {
  there = goes.calling.there;
  calls = (goes.calling.calls, λ answer to. calling.calls.1 answer (goes.same answer to));
}

-- ---- what comes of a step of a call of one kind

-- a step of a call of a kind goes on, with fewer steps left, or is answered as its ends are
pub step_went : {E : Type 0} (kind : Kind E) (old new : WorldValue) (p : ℕ) (turn : Turn E) → IsSound (world_of old) → IsGood new → IsCallingAs kind.is old p → StepsBy old p (reply_of kind.answer turn) new → Went kind.answer old p (ended turn) new
step_went kind old new p turns.GoesOn sound good calling steps =
    let fits : Fits old (Step p) Stepped new = record { takes = steps; good = good } in (
      step_goes old new p sound (record { there = calling.there; calls = calling.calls.0 }) fits,
      falls_by old new (Step p) Stepped sound steps p refl refl,
    )
step_went kind old new p (turns.Answers end) sound good calling steps = step_answers old new p (kind.answer end) (record { takes = steps; good = good })

-- it makes none: its work waits, and is offered its entry
pub offer_went : (kind : Answer → Type 0) (old mid new : WorldValue) (p : ℕ) (offered : Bool) → IsCallingAs kind old p → Rests (IsCallOf kind) old p mid → (IsTrue offered → GoesOn mid p new) → (IsTrue offered → steps_left p new < steps_left p mid) → (IsFalse offered → IsNotWaiting mid p)
    → GoesOn old p new × (steps_left p new < steps_left p old)
offer_went kind old mid new p true calling rests goes fewer none = (subst (λ (v : WorldValue). GoesOn v p new) rests.same (goes refl), subst (λ (v : WorldValue). steps_left p new < steps_left p v) rests.same (fewer refl))
offer_went kind old mid new p false calling rests goes fewer none = absurd (must_wait kind old mid p calling rests (subst (λ (v : WorldValue). IsNotWaiting v p) rests.same (none refl)))
