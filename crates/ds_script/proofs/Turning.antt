-- What is left of a command after an event.
use Rattle.std.proofs.Common.{ℕ, List, All, ◌≡◌, ◌<◌, ◌∙◌, ◌⊎◌, inl, inr, Bool, true, false, Some, None, refl, sym, ap, subst, lit<, arith}
use Rattle.std.specs.Prelude.{Option, IfSome, if◌then◌else◌}
use Rattle.ds_formula.specs.declared.cells.Shape.{Shape}
use Rattle.ds_formula.specs.Cells.{cell_at}
use Rattle.ds_eval.specs.declared.inputs.Entry.{Entry}
use Rattle.ds_eval.specs.Tasks.{PlainEvaluated}
use Rattle.ds_layout.specs.Places.{cells_of}
use Rattle.ds_layout.specs.declared.layout.Layout.{Layout}
use Rattle.ds_state.specs.Value.{WorldValue, world_of, IsGood}
use Rattle.ds_state.specs.Works.{PlainWorkCall}
use Rattle.ds_state.specs.declared.situation.Situation.{Situation}
use Rattle.ds_state.specs.declared.situation.Situation.TheVariants.{Working}
use Rattle.ds_state.specs.declared.work.WorkStage.{WorkStage}
use Rattle.ds_state.specs.declared.work.WorkStage.TheVariants.{Wait, Clear, StoreValue}
use Rattle.ds_state.specs.declared.answer.Answer.{Answer}
use Rattle.ds_state.specs.declared.answer.Answer.TheVariants.{Work}
use Rattle.ds_state.specs.declared.work.WorkEnd.{WorkEnd}
use Rattle.ds_work.specs.WorkSteps as steps
use Rattle.ds_work.specs.WorkTakes.{IsOffered}
use Rattle.ds_core.specs.Own.{steps_left}
use Rattle.ds_core.specs.Takes.{Fits}
use Rattle.ds_core.specs.declared.event.Event.{Event}
use Rattle.ds_core.specs.declared.event.Event.TheVariants.{Step, BeginWork, Offer}
use Rattle.ds_core.specs.declared.reply.Reply.{Reply}
use Rattle.ds_core.specs.declared.reply.Reply.TheVariants.{Stepped, Answered}
use Rattle.ds_core.proofs.Bound.{same_layout}
use Rattle.ds_calls.specs.Wanted.{wanted, wanted_at, evaluated}
use Rattle.ds_calls.proofs.Driving.{offer_event, offer_fits, offer_fewer}
use Rattle.ds_script.specs.declared.point.PointName.{PointName}
use Rattle.ds_script.specs.declared.drive.Until.{Until}
use Rattle.ds_script.specs.declared.drive.Until.TheVariants.{OneStep, ToPoint, ToAnswer, InRound}
use Rattle.ds_script.specs.ScriptTexts.{reply_text}
use Rattle.ds_script.specs.Doing.{Doing, Says, called, offered, driven, ended}
use Rattle.ds_script.specs.Plays.{WantsStep}
use Rattle.ds_script.proofs.Driving.{offer_asked, if_some}
use Rattle.ds_script.specs.Script.{step_taken}
use Rattle.ds_script.specs.declared.turn.Left.{Left}
use Rattle.ds_script.specs.declared.turn.Left.TheVariants as left
use Rattle.ds_script.specs.ScriptTurns.{Remains, IsStep, IsWithin, doing_of, events_from, events_to_step, TakesTurn}

-- ---- cells

-- no event changes what cells the sheet has
pub stays_within : (old new : WorldValue) (event : Event) (reply : Reply) (l : Left) → Fits old event reply new → IsWithin old l → IsWithin new l
stays_within old new event reply (left.Drives p OneStep) fits h = tt
stays_within old new event reply (left.Drives p (ToPoint name)) fits h = tt
stays_within old new event reply (left.Drives p ToAnswer) fits h = tt
stays_within old new event reply (left.Drives p (InRound rounds cell)) fits h = subst (λ (l : Layout). cell < cells_of l) (sym (same_layout old new event reply fits.takes)) h
stays_within old new event reply (left.Works p rounds cell) fits h = subst (λ (l : Layout). cell < cells_of l) (sym (same_layout old new event reply fits.takes)) h
stays_within old new event reply (left.WorksInOrder p cell rest) fits h = subst (λ (l : Layout). (cell < cells_of l) × All (λ c. c < cells_of l) rest.items) (sym (same_layout old new event reply fits.takes)) h
stays_within old new event reply (left.DrivesInOrder p rest) fits h = subst (λ (l : Layout). All (λ c. c < cells_of l) rest.items) (sym (same_layout old new event reply fits.takes)) h

pub within_by : (w : WorldValue) (p : ℕ) (until : Until) (rounds cell : ℕ) → until ≡ InRound rounds cell → IsWithin w (left.Drives p until) → cell < cells_of w.sheet.layout
within_by w p until rounds cell is h = subst (λ (u : Until). IsWithin w (left.Drives p u)) is h

-- ---- answers

-- a round ends with an answer that is none of work, and what is no round with each
pub ends_with : (w : WorldValue) (p : ℕ) (until : Until) (answer : Answer) → ((end : WorkEnd) → answer ≡ Work end → ⊥) → ended w p until (Answered answer) ≡ Says (reply_text w p (Answered answer))
ends_with w p (InRound rounds cell) (Work end) none = absurd (none end refl)
ends_with w p (InRound rounds cell) _ none = refl
ends_with w p _ answer none = refl

-- a process that is not driven in a round ends with its answer
pub answered : (w : WorldValue) (p : ℕ) (until : Until) (answer : Answer) → (until ≡ OneStep) ⊎ (((name : PointName) × (until ≡ ToPoint name)) ⊎ (until ≡ ToAnswer)) → Remains None (ended w p until (Answered answer))
answered w p until answer (inl is) = (reply_text w p (Answered answer), ap (λ (u : Until). ended w p u (Answered answer)) is)
answered w p until answer (inr (inl is)) = (reply_text w p (Answered answer), ap (λ (u : Until). ended w p u (Answered answer)) is.1)
answered w p until answer (inr (inr is)) = (reply_text w p (Answered answer), ap (λ (u : Until). ended w p u (Answered answer)) is)

-- ---- an offer

wants_by : (shape : Shape) (p : ℕ) (e : PlainWorkCall) (same : Bool) → wanted_at p shape e (if same then Clear false else StoreValue) ≡ Step p
wants_by shape p e true = refl
wants_by shape p e false = refl

-- after an offer the process wants a step
pub wants_behind : (old new : WorldValue) (p : ℕ) (shape : Shape) → ((entry : Entry) × IsOffered (world_of old) p entry (world_of new)) → wanted p shape ((world_of new).situation p) ≡ Step p
wants_behind old new p shape given =
    let w : PlainWorkCall = given.1.work in
    let is : (world_of new).situation p ≡ Working (steps.offered w given.0) = ap (λ (q : ℕ). (world_of new).situation q) (sym given.1.mine) ∙ given.1.offers.turn.situation in
    ap (λ (s : Situation). wanted p shape s) is ∙ wants_by shape p (steps.offered w given.0) _

offered_is : (a b : PlainEvaluated) → Offer a ≡ Offer b → a ≡ b
offered_is a b is = cc

-- an offer is one to the process
pub own_offer : (old new : WorldValue) (p : ℕ) (given : (entry : Entry) × IsOffered (world_of old) p entry (world_of new)) (good : IsGood new) (done : new.done ≡ old.done) (settled : new.settled ≡ old.settled) (reports : new.reports ≡ old.reports)
    → (value : PlainEvaluated) → offer_event old new p given good done settled reports ≡ Offer value → value.task.process ≡ p
own_offer old new p given good done settled reports value is =
    subst (λ (e : PlainEvaluated). e.task.process ≡ p) (offered_is (evaluated old.sheet.layout.shape given.1.work) value is) given.1.mine

-- ---- turns

-- how near the next step is
near_at : (p : ℕ) (shape : Shape) (e : PlainWorkCall) (s : WorkStage) → events_from (Some (wanted_at p shape e s)) < 3
near_at p shape e Wait = lit< tt
near_at p shape e s = lit< tt

pub near : (p : ℕ) (shape : Shape) (s : Situation) → events_from (Some (wanted p shape s)) < 3
near p shape (Working e) = near_at p shape e e.stage
near p shape s = lit< tt

-- a beginning of work
pub begins : (old new : WorldValue) (p rounds cell : ℕ) (reply : Reply) (next : Option Left)
    → cell < cells_of old.sheet.layout → Fits old (BeginWork p (cell_at old.sheet.layout.shape cell)) reply new
    → Remains next (called new p (InRound rounds cell) reply) → IfSome next (λ l. l ≡ left.Drives p (InRound rounds cell))
    → TakesTurn (left.Works p rounds cell) old (record { stepped = false; reply = reply; left = next }) new
begins old new p rounds cell reply next inside fits remains same = record {
  event = BeginWork p (cell_at old.sheet.layout.shape cell);
  asked = refl;
  fits = fits;
  is = refl;
  offers = λ value is. cc;
  remains = remains;
  within = if_some next (λ l. l ≡ left.Drives p (InRound rounds cell)) (IsWithin new)
      (λ l is. subst (λ (x : Left). IsWithin new x) (sym is) (subst (λ (y : Layout). cell < cells_of y) (sym (same_layout old new (BeginWork p (cell_at old.sheet.layout.shape cell)) reply fits.takes)) inside)) same;
  nearer = λ none. if_some next (λ l. l ≡ left.Drives p (InRound rounds cell)) (λ l. events_to_step new l < 3)
      (λ l is. subst (λ (x : Left). events_to_step new x < 3) (sym is) (near p new.sheet.layout.shape ((world_of new).situation p))) same;
  fewer = tt;
}

-- an offer
pub offers : (old new : WorldValue) (p : ℕ) (until : Until) (next : Option Left) (given : (entry : Entry) × IsOffered (world_of old) p entry (world_of new))
    → IsGood new → new.done ≡ old.done → new.settled ≡ old.settled → new.reports ≡ old.reports
    → Remains next (offered new p until) → IfSome next (IsWithin new) → IfSome next (λ l. l ≡ left.Drives p until)
    → TakesTurn (left.Drives p until) old (record { stepped = false; reply = Stepped; left = next }) new
offers old new p until next given good done settled reports remains within same = record {
  event = offer_event old new p given good done settled reports;
  asked = offer_asked old new p until given good done settled reports;
  fits = offer_fits old new p given good done settled reports;
  is = refl;
  offers = λ value is. (own_offer old new p given good done settled reports value is, refl);
  remains = remains;
  within = within;
  nearer = λ none. if_some next (λ l. l ≡ left.Drives p until) (λ l. events_to_step new l < events_to_step old (left.Drives p until))
      (λ l is. subst (λ (x : Left). events_to_step new x < events_to_step old (left.Drives p until)) (sym is)
      (subst (λ (n : ℕ). events_to_step new (left.Drives p until) < n) (sym (ap events_from (offer_asked old new p until given good done settled reports)))
      (subst (λ (n : ℕ). n < 2) (sym (ap (λ (e : Event). events_from (Some e)) (wants_behind old new p new.sheet.layout.shape given))) (lit< tt)))) same;
  fewer = λ is. offer_fewer old new p given good done settled reports;
}

-- a step that is not taken ends the command
says : (w : WorldValue) (p : ℕ) (until : Until) (reply : Reply) → step_taken (Step p) reply ≡ 0 → driven w p until (Step p) reply ≡ Says (reply_text w p reply)
says w p until Stepped none = absurd (omega (arith, none))
says w p until (Answered answer) none = absurd (omega (arith, none))
says w p (InRound rounds cell) reply none = refl
says w p until reply none = refl

-- a reply that is neither a step nor an answer ends it, too
pub other_reply : (w : WorldValue) (p : ℕ) (until : Until) (reply : Reply) → (reply ≡ Stepped → ⊥) → ((answer : Answer) → reply ≡ Answered answer → ⊥) → driven w p until (Step p) reply ≡ Says (reply_text w p reply)
other_reply w p until Stepped a b = absurd (a refl)
other_reply w p until (Answered answer) a b = absurd (b answer refl)
other_reply w p (InRound rounds cell) reply a b = refl
other_reply w p until reply a b = refl

-- a text leaves nothing
pub not_said : (text : List ℕ) (l : Left) → Says text ≡ doing_of l → ⊥
not_said text (left.Drives p until) is = cc
not_said text (left.Works p rounds cell) is = cc
not_said text (left.WorksInOrder p cell rest) is = cc
not_said text (left.DrivesInOrder p rest) is = cc

pub nothing_left : (text : List ℕ) (next : Option Left) (P : Left → Type 0) → Remains next (Says text) → IfSome next P
nothing_left text None P h = tt
nothing_left text (Some l) P h = absurd (not_said text l h)

-- a step, taken or not
pub takes_step : (old new : WorldValue) (p : ℕ) (until : Until) (reply : Reply) (taken : Bool) (next : Option Left) → WantsStep old p → Fits old (Step p) reply new
    → IsStep taken (Step p) reply → Remains next (driven new p until (Step p) reply) → IfSome next (IsWithin new)
    → (reply ≡ Stepped → steps_left p new < steps_left p old)
    → TakesTurn (left.Drives p until) old (record { stepped = taken; reply = reply; left = next }) new
takes_step old new p until reply true next wants fits is remains within fewer = record {
  event = Step p;
  asked = ap (λ (e : Event). Some e) wants;
  fits = fits;
  is = is;
  offers = λ value other. cc;
  remains = remains;
  within = within;
  nearer = λ none. absurd (let e : true ≡ false = none in cc);
  fewer = fewer;
}
takes_step old new p until reply false next wants fits is remains within fewer = record {
  event = Step p;
  asked = ap (λ (e : Event). Some e) wants;
  fits = fits;
  is = is;
  offers = λ value other. cc;
  remains = remains;
  within = within;
  nearer = λ none. nothing_left (reply_text new p reply) next (λ l. events_to_step new l < events_to_step old (left.Drives p until))
      (subst (λ (d : Doing). Remains next d) (says new p until reply is) remains);
  fewer = fewer;
}
