-- A whole recovery of a stopped process that is played to its end leaves the process idle, and the others as they were.
use Rattle.std.proofs.Common.{ℕ, ◌≡◌, ◌≢◌, List, [], ◌∷◌, ap, sym, ◌∙◌, subst, Some, None}
use Rattle.ds_state.specs.Works.{PlainRecoverCall}
use Rattle.ds_state.specs.Value.{WorldValue, world_of, IsGood}
use Rattle.ds_state.specs.declared.situation.Situation.{Situation}
use Rattle.ds_state.specs.declared.situation.Rest.{Rest}
use Rattle.ds_state.specs.LayoutsFit.{IsMigrating, IsMoving, NoneMoves}
use Rattle.ds_state.specs.declared.refusal.Refusal.TheVariants.{Busy}
use Rattle.ds_state.specs.declared.refusal.Refusal.TheVariants as refusal
use Rattle.ds_state.specs.declared.situation.Situation.TheVariants.{Idle, Stopped, Editing, Working, Recovering, Showing, Migrating}
use Rattle.ds_recover.specs.RecoverBegun.{MayRecover}
use Rattle.ds_recover.specs.RecoverySteps as recoveries
use Rattle.ds_state.specs.declared.answer.Answer.{Answer}
use Rattle.ds_state.specs.declared.answer.Answer.TheVariants.{Migration}
use Rattle.ds_core.specs.Kinds.{AnswersTo, IsRecoveryAnswer, RestsAs}
use Rattle.ds_core.specs.StepEvents as steps
use Rattle.ds_core.specs.Own.{IsInCall}
use Rattle.ds_core.specs.RecoveryEvents.{RecoveryStepsBy, recovery_reply}
use Rattle.ds_core.specs.Takes.{Fits}
use Rattle.ds_core.specs.declared.event.Event.{Event}
use Rattle.ds_core.specs.declared.event.Event.TheVariants.{BeginRecover, Step}
use Rattle.ds_core.specs.declared.reply.Reply.{Reply}
use Rattle.ds_core.specs.declared.reply.Reply.TheVariants.{Entered, Refused, Stepped, Answered, NotEnabled}
use Rattle.ds_core.proofs.Bound.{same_layout}
use Rattle.ds_core.proofs.CallKinds.{recovery_on, step_ends}
use Rattle.ds_core.proofs.Turns.{recovery_turn}
use Rattle.ds_calls.specs.Wanted.{wants, wanted}
use Rattle.ds_calls.specs.Whole.{HasProcess}
use Rattle.ds_script.specs.declared.drive.Until.TheVariants.{ToAnswer}
use Rattle.ds_script.specs.Doing.{Says, Calls, Drives, told}
use Rattle.ds_script.specs.Plays.{Plays}

-- the process is idle now, and nobody else did anything
pub record IsRecovered (p : ℕ) (old new : WorldValue) : Type 0 where
  pub next : Rest
  pub idle : (world_of new).situation p ≡ Idle next
  pub others : (q : ℕ) → q ≢ p → (world_of new).situation q ≡ (world_of old).situation q
  pub layout : new.sheet.layout ≡ old.sheet.layout
  pub good : IsGood new

-- a command that has its text wants no event
says_ends : (events : List Event) (replies : List Reply) (before after : List ℕ) (w new : WorldValue) → Plays (Says before) w events replies (Says after) new → new ≡ w
says_ends [] [] before after w new h = h.1
says_ends (event ∷ events) (reply ∷ replies) before after w new h = absurd (let bad : None ≡ Some event = h.1 in cc)
says_ends [] (reply ∷ replies) before after w new h = absurd h
says_ends (event ∷ events) [] before after w new h = absurd h

-- after an answer of a recovery a process is idle
rested : (answer : Answer) (s : Situation) → IsRecoveryAnswer answer → RestsAs answer s → (next : Rest) × (s ≡ Idle next)
rested (Migration end) s is r = absurd is
rested _ s is r = r

module _ (p : ℕ) where
  behind : (old mid new : WorldValue) → ((q : ℕ) → q ≢ p → (world_of mid).situation q ≡ (world_of old).situation q) → mid.sheet.layout ≡ old.sheet.layout → IsRecovered p mid new → IsRecovered p old new
  behind old mid new others layout r = record { next = r.next; idle = r.idle; others = λ q ne. r.others q ne ∙ others q ne; layout = r.layout ∙ layout; good = r.good }

  -- a step of a process that recovers is one of its recovery
  its_step : (w mid : WorldValue) (reply : Reply) (e : PlainRecoverCall) → (world_of w).situation p ≡ Recovering e → steps.StepsBy w p reply mid → RecoveryStepsBy w p reply mid
  its_step w mid reply e at (steps.recoveries h) = h
  its_step w mid reply e at (steps.edits h) = absurd (let bad : Editing h.steps.edit ≡ Recovering e = sym h.steps.at ∙ at in cc)
  its_step w mid reply e at (steps.works h) = absurd (let bad : Working h.steps.work ≡ Recovering e = sym h.steps.works ∙ at in cc)
  its_step w mid reply e at (steps.migrations h) = absurd (let bad : Migrating h.steps.migration ≡ Recovering e = sym h.steps.at ∙ at in cc)
  its_step w mid reply e at (steps.reports h) = absurd (let bad : Showing h.steps.show ≡ Recovering e = sym h.steps.at ∙ at in cc)

  driven_on : (events : List Event) (replies : List Reply) (w new : WorldValue) (text : List ℕ) (e : PlainRecoverCall) → IsGood w → HasProcess w p → (world_of w).situation p ≡ Recovering e
      → Plays (Drives p ToAnswer) w events replies (Says text) new → IsRecovered p w new
  driven_on [] [] w new text e good there at h = absurd (let bad : Says text ≡ Drives p ToAnswer = h.0 in cc)
  driven_on [] (reply ∷ replies) w new text e good there at h = absurd h
  driven_on (event ∷ events) [] w new text e good there at h = absurd h
  driven_on (event ∷ events) (reply ∷ replies) w new text e good there at h =
      let wanted_is : wants w p ≡ Step p = ap (λ (s : Situation). wanted p w.sheet.layout.shape s) at in
      let asked : Some (wants w p) ≡ Some event = h.1 in
      let is : event ≡ Step p = (let same : wants w p ≡ event = cc in sym same ∙ wanted_is) in
      by (λ f good_on there_on at_on on. driven_on events replies h.0 new text f good_on there_on at_on on) reply
      (subst (λ (x : Event). Fits w x reply h.0) is h.2) (subst (λ (x : Event). Plays (told (Drives p ToAnswer) x reply h.0) h.0 events replies (Says text) new) is h.3)
    where
      by : ((f : PlainRecoverCall) → IsGood h.0 → HasProcess h.0 p → (world_of h.0).situation p ≡ Recovering f → Plays (Drives p ToAnswer) h.0 events replies (Says text) new → IsRecovered p h.0 new)
          → (r : Reply) → Fits w (Step p) r h.0 → Plays (told (Drives p ToAnswer) (Step p) r h.0) h.0 events replies (Says text) new → IsRecovered p w new
      by go Stepped fits on =
          let s = its_step w h.0 Stepped e at fits.takes in
          let layout = same_layout w h.0 (Step p) Stepped fits.takes in
          let goes : Stepped ≡ recovery_reply (recoveries.effect_at s.steps.recovery s.steps.recovery.stage) = s.is ∙ ap recovery_reply s.steps.is in
          behind w h.0 new (recovery_turn w h.0 p Stepped good.sound s).others layout
          (go (recoveries.next_at s.steps.recovery s.steps.recovery.stage s.steps.word) fits.good (rw layout there)
          (ap (λ q. (world_of h.0).situation q) (sym s.steps.mine) ∙ s.steps.steps.situation ∙ recovery_on s.steps.recovery s.steps.recovery.stage s.steps.word goes) on)
      by go (Answered answer) fits on =
          let s = its_step w h.0 (Answered answer) e at fits.takes in
          let ends = step_ends w h.0 p answer fits.takes in
          let rests = rested answer ((world_of h.0).situation p) (subst (λ (s : Situation). AnswersTo s answer) at ends.to) ends.rests in
          let same = says_ends events replies _ text h.0 new on in
          subst (λ (v : WorldValue). IsRecovered p w v) (sym same) (record {
            next = rests.0;
            idle = rests.1;
            others = (recovery_turn w h.0 p (Answered answer) good.sound s).others;
            layout = same_layout w h.0 (Step p) (Answered answer) fits.takes;
            good = fits.good;
          })
      by go NotEnabled fits on = absurd (let w = fits.takes.waits there (subst IsInCall (sym at) tt) in let bad : Recovering e ≡ Working w.0 = sym at ∙ w.1 in cc)
      by go _ fits on = absurd fits.takes

  pub recovered : (events : List Event) (replies : List Reply) (w new : WorldValue) (text : List ℕ) → IsGood w → HasProcess w p → (world_of w).situation p ≡ Stopped → NoneMoves (world_of w) p
      → Plays (Calls p (BeginRecover p)) w events replies (Says text) new → IsRecovered p w new
  recovered [] [] w new text good there at alone h = absurd (let bad : Says text ≡ Calls p (BeginRecover p) = h.0 in cc)
  recovered [] (reply ∷ replies) w new text good there at alone h = absurd h
  recovered (event ∷ events) [] w new text good there at alone h = absurd h
  recovered (event ∷ events) (reply ∷ replies) w new text good there at alone h =
      let asked : Some (BeginRecover p) ≡ Some event = h.1 in
      let is : event ≡ BeginRecover p = cc in
      by reply (subst (λ (x : Event). Fits w x reply h.0) is h.2) (subst (λ (x : Event). Plays (told (Calls p (BeginRecover p)) x reply h.0) h.0 events replies (Says text) new) is h.3)
    where
      still : (q : ℕ) → q ≡ p → IsMigrating (world_of w) q → ⊥
      still q same m = subst IsMoving (ap (λ n. (world_of w).situation n) same ∙ at) m.is

      by : (r : Reply) → Fits w (BeginRecover p) r h.0 → Plays (told (Calls p (BeginRecover p)) (BeginRecover p) r h.0) h.0 events replies (Says text) new → IsRecovered p w new
      by Entered fits on =
          let layout = same_layout w h.0 (BeginRecover p) Entered fits.takes in
          behind w h.0 new fits.takes.begun.begins.others layout (driven_on events replies h.0 new text _ fits.good (rw layout there) fits.takes.begun.begins.situation on)
      by (Refused Busy) fits on = absurd (fits.takes.holds (subst MayRecover (sym at) tt))
      by (Refused (refusal.Migrating q)) fits on = absurd (alone q fits.takes.holds.1.there (λ same. still q same fits.takes.holds.1) fits.takes.holds.1.is)
      by (Refused _) fits on = absurd fits.takes.holds
      by NotEnabled fits on = absurd (fits.takes.none there)
      by _ fits on = absurd fits.takes
