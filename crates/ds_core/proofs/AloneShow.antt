-- A show that begins in a quiescent world and is alone is answered, and the answer is Settled.
use Rattle.std.proofs.Common.{ℕ, ◌≡◌, ◌<◌, ◌≤◌, ◌+◌, ◌*◌, ◌⊎◌, List, [], ◌∷◌, refl, ap, sym, ◌∙◌, subst, arith, inl, inr, suc, Some}
use Rattle.std.proofs.lemmas.Bool.Decides.{eqb_tells}
use Rattle.ds_layout.specs.declared.place.Place.{Place}
use Rattle.ds_layout.specs.Places.{cells_of}
use Rattle.ds_state.specs.World.{PlainWorld}
use Rattle.ds_state.specs.Works.{PlainShowCall}
use Rattle.ds_state.specs.Shown.{IsQuiet}
use Rattle.ds_state.specs.Sound.{IsSound}
use Rattle.ds_state.specs.Value.{WorldValue, world_of}
use Rattle.ds_state.specs.declared.situation.Situation.TheVariants.{Editing, Working, Recovering, Showing, Migrating}
use Rattle.ds_state.specs.declared.show.ShowEnd.{ShowEnd}
use Rattle.ds_state.specs.declared.show.ShowStage.{ShowStage}
use Rattle.ds_state.specs.declared.show.ShowStage.TheVariants as stages
use Rattle.ds_state.proofs.Accesses.{evict_sound}
use Rattle.ds_state.proofs.Buffers.{buffered}
use Rattle.ds_state.specs.declared.answer.Answer.{Answer}
use Rattle.ds_state.specs.declared.answer.Answer.TheVariants.{Show}
use Rattle.ds_state.specs.declared.show.ShowEnd.TheVariants.{Settled}
use Rattle.ds_show.specs.ShowSteps as shows
use Rattle.ds_show.specs.ShowSolo.{SoloCall}
use Rattle.ds_show.proofs.ShowSolo.{solo_settles}
use Rattle.ds_core.specs.Takes.{Takes, WorldRun}
use Rattle.ds_core.specs.StepEvents.{StepTakes, StepsBy, EvictTakes, edits, works, reports, recoveries, migrations}
use Rattle.ds_core.specs.ShowEvents.{ShowStepsBy, ShowBegins, show_reply}
use Rattle.ds_core.specs.Own.{own_step, own_steps, left_in, steps_left, IsInCall}
use Rattle.ds_core.specs.Solo.{IsSoloEvent, IsSolo}
use Rattle.ds_core.specs.Headline.{Happens}
use Rattle.ds_core.specs.declared.event.Event.{Event}
use Rattle.ds_core.specs.declared.event.Event.TheVariants.{BeginShow, Step, Evict}
use Rattle.ds_core.specs.declared.reply.Reply.{Reply}
use Rattle.ds_core.specs.declared.reply.Reply.TheVariants.{Entered, Stepped, Answered, Evicted, NotEnabled}
use Rattle.ds_core.proofs.Turns.{show_begins_turn}
use Rattle.ds_core.proofs.Bound.{same_layout}
use Rattle.ds_core.proofs.Counts.{steps_on}
use Rattle.ds_core.proofs.CallKinds.{show_on}
use Rattle.ds_core.proofs.CallSteps.{some_left, show_left}

-- the process's show has been alone since it began in a quiescent world
record IsAloneIn (p : ℕ) (v : WorldValue) : Type 0 where
  past : List PlainWorld
  solo : SoloCall p (world_of v) past
  show : PlainShowCall
  is : (world_of v).situation p ≡ Showing show

-- the show goes on alone, with this step one less of those that it had left
record GoesAlone (p : ℕ) (event : Event) (r : Reply) (old new : WorldValue) : Type 0 where
  alone : IsAloneIn p new
  fewer : own_step p event r + steps_left p new ≤ steps_left p old

-- the stage of a show that answers
answering : (s : ShowStage) (answer : Answer) → Answered answer ≡ show_reply (shows.effect_at s) → (end : ShowEnd) × (s ≡ stages.Answer end) × (answer ≡ Show end)
answering (stages.Answer end) answer is = (end, refl, cc)
answering _ answer is = absurd (cc)

module _ (p : ℕ) (old new : WorldValue) (sound : IsSound (world_of old)) (low : p < old.sheet.layout.processes) (a : IsAloneIn p old) where
  goes : ShowStepsBy old p Stepped new → own_step p (Step p) Stepped ≡ 1 → GoesAlone p (Step p) Stepped old new
  goes h one =
      let e : PlainShowCall = h.steps.show in
      let on : Stepped ≡ show_reply (shows.effect_at e.stage) = h.is ∙ ap show_reply h.steps.is in
      let less = (steps_on old new p sound (reports h)).fewer in
      record {
        alone = record {
          past = world_of old ∷ a.past;
          solo = (sound, inl (record { show = e; word = h.steps.word; mine = h.steps.mine; was = h.steps.at; steps = h.steps.steps }), a.solo);
          show = shows.next_at e e.stage h.steps.word;
          is = ap (λ q. (world_of new).situation q) (sym h.steps.mine) ∙ h.steps.steps.situation ∙ show_on e e.stage h.steps.word on;
        };
        fewer = omega (arith, less, one);
      }

  settles : (answer : Answer) → ShowStepsBy old p (Answered answer) new → answer ≡ Show Settled
  settles answer h =
      let s = answering h.steps.show.stage answer (h.is ∙ ap show_reply h.steps.is) in
      s.2 ∙ ap (λ end. Show end) (solo_settles p (world_of old) a.past a.solo h.steps.show s.0 h.steps.at s.1)

  -- a step is one of the show
  is_show : (r : Reply) → StepsBy old p r new → ShowStepsBy old p r new
  is_show r (reports h) = h
  is_show r (edits h) = absurd (let bad : Editing h.steps.edit ≡ Showing a.show = sym h.steps.at ∙ a.is in cc)
  is_show r (works h) = absurd (let bad : Working h.steps.work ≡ Showing a.show = sym h.steps.works ∙ a.is in cc)
  is_show r (recoveries h) = absurd (let bad : Recovering h.steps.recovery ≡ Showing a.show = sym h.steps.at ∙ a.is in cc)
  is_show r (migrations h) = absurd (let bad : Migrating h.steps.migration ≡ Showing a.show = sym h.steps.at ∙ a.is in cc)

  on_step : (r : Reply) → StepTakes old p r new → own_step p (Step p) Stepped ≡ 1 → (r ≡ Answered (Show Settled)) ⊎ GoesAlone p (Step p) r old new
  on_step Stepped h one = inr (goes (is_show Stepped h) one)
  on_step (Answered answer) h one = inl (ap (λ x. Answered x) (settles answer (is_show (Answered answer) h)))
  on_step NotEnabled h one = absurd (let w = h.waits low (subst IsInCall (sym a.is) tt) in let bad : Working w.0 ≡ Showing a.show = sym w.1 ∙ a.is in cc)
  on_step _ h one = absurd h

  on_eviction : (place : Place) (r : Reply) → EvictTakes old place r new → GoesAlone p (Evict place) r old new
  on_eviction place Evicted h =
      let same : steps_left p new ≡ steps_left p old = ap left_in (h.evicts.situation p) in
      record {
        alone = record {
          past = world_of old ∷ a.past;
          solo = (sound, inr (record { rely = (evict_sound place (world_of old) (world_of new) sound (buffered (world_of old) sound) h.evicts).1 p low; cached = h.evicts.memory.cached }), a.solo);
          show = a.show;
          is = h.evicts.situation p ∙ a.is;
        };
        fewer = omega (arith, same);
      }
  on_eviction place NotEnabled h = subst (λ (v : WorldValue). GoesAlone p (Evict place) NotEnabled old v) (sym h.same) (record { alone = a; fewer = omega arith })
  on_eviction place _ h = absurd h

-- a step of the process is one of its own
own : (p : ℕ) → own_step p (Step p) Stepped ≡ 1
own p = elim (eqb_tells p p) [ inl same ↦ rw same.0 refl | inr other ↦ absurd (other.1 refl) ]

-- an event beside the show that is alone: it settles it, or it goes on
on_event : (p : ℕ) (event : Event) (r : Reply) (old new : WorldValue) → IsSound (world_of old) → p < old.sheet.layout.processes → IsAloneIn p old → Takes old event r new → IsSoloEvent p event
    → ((event ≡ Step p) × (r ≡ Answered (Show Settled))) ⊎ GoesAlone p event r old new
on_event p (Step q) r old new sound low a takes solo = elim (on_step p old new sound low a r (subst (λ (x : ℕ). StepTakes old x r new) solo takes) (own p)) [
  | inl done ↦ inl (ap (λ x. Step x) solo, done)
  | inr goes ↦ inr (subst (λ (x : ℕ). GoesAlone p (Step x) r old new) (sym solo) goes)
]
on_event p (Evict place) r old new sound low a takes solo = inr (on_eviction p old new sound low a place r takes)
on_event p _ r old new sound low a takes solo = absurd solo

find : (events : List Event) (replies : List Reply) (old new : WorldValue) (p : ℕ) → IsSound (world_of old) → p < old.sheet.layout.processes → IsAloneIn p old → WorldRun old events replies new → IsSolo p events
    → steps_left p old ≤ own_steps p events replies → (k : ℕ) × Happens events replies k (Step p) (Answered (Show Settled))
find [] replies old new p sound low a run solo enough = absurd (
    let some = some_left (world_of old) p ((world_of old).situation p) (sound.calls p low) (subst IsInCall (sym a.is) tt) in
    omega (arith, some, enough))
find (event ∷ events) [] old new p sound low a run solo enough = absurd run
find (event ∷ events) (r ∷ replies) old new p sound low a run solo enough = elim (on_event p event r old run.0 sound low a run.1.takes solo.0) [
  | inl done ↦ (0, record { event_is = ap (λ x. Some x) done.0; reply_is = ap (λ x. Some x) done.1 })
  | inr goes ↦ (
      let less = goes.fewer in
      let rest = find events replies run.0 new p run.1.good.sound (rw (same_layout old run.0 event r run.1.takes) low) goes.alone run.2 solo.1 (omega (arith, less, enough)) in
      (suc rest.0, record { event_is = rest.1.event_is; reply_is = rest.1.reply_is }))
]

-- a show that begins in a quiescent world, is alone and makes enough steps is answered Settled
pub solo_settled : (old mid new : WorldValue) (events : List Event) (replies : List Reply) (p : ℕ) → IsSound (world_of old) → IsQuiet (world_of old) → Takes old (BeginShow p) Entered mid
    → WorldRun mid events replies new → IsSolo p events → 2 * old.sheet.layout.processes + 4 * cells_of old.sheet.layout + 1 ≤ own_steps p events replies
    → (k : ℕ) × Happens events replies k (Step p) (Answered (Show Settled))
solo_settled old mid new events replies p sound quiet takes run solo enough =
    let b : ShowBegins old p mid = takes in
    let few = show_left mid p _ b.begun.begins.situation in
    find events replies mid new p (show_begins_turn old mid p sound b).keeps.sound (rw (same_layout old mid (BeginShow p) Entered takes) b.there)
    (record { past = []; solo = (record { before = world_of old; next = b.begun.next; sound = sound; real = b.there; begins = b.begun.begins }, quiet); show = _; is = b.begun.begins.situation })
    run solo (omega (arith, few, enough))
