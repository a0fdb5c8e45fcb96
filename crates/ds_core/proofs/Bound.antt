-- What one step leaves of an edit; what runs keep.
use Rattle.std.proofs.Common.{ℕ, ◌≡◌, ◌<◌, List, [], ◌∷◌, refl, ap, sym, ◌∙◌, subst, Some, None}
use Rattle.std.specs.Prelude.{Option}
use Rattle.ds_state.specs.Edits.{PlainEditCall}
use Rattle.ds_state.specs.World.{PlainWorld}
use Rattle.ds_state.specs.Works.{PlainWorkCall}
use Rattle.ds_state.specs.declared.turn.Turn.{Turn}
use Rattle.ds_state.specs.declared.work.WorkEnd.{WorkEnd}
use Rattle.ds_work.specs.WorkTakes as work_events
use Rattle.ds_state.specs.Value.{WorldValue, world_of}
use Rattle.ds_state.specs.CallsFit.{CallFits, EditFits}
use Rattle.ds_state.specs.Sound.{IsSound}
use Rattle.ds_state.specs.declared.stage.Outcome.{Outcome}
use Rattle.ds_state.specs.declared.stage.Stage.{Stage}
use Rattle.ds_state.specs.declared.stage.Stage.TheVariants.{Answer}
use Rattle.ds_state.specs.declared.situation.Situation.{Situation}
use Rattle.ds_state.specs.declared.situation.Situation.TheVariants.{Editing}
use Rattle.ds_edit.specs.EditSteps.{rank, next_at, Falls}
use Rattle.ds_edit.specs.EditTakes.{after}
use Rattle.ds_state.specs.EditEndings.{outcome_at}
use Rattle.ds_edit.proofs.Stays.{each_falls}
use Rattle.ds_core.specs.EditEvents.{reply_with, EditStepsBy}
use Rattle.ds_core.proofs.Replied.{replied}
use Rattle.ds_core.specs.StepEvents.{edits, works, reports, recoveries, migrations}
use Rattle.ds_core.specs.Takes.{Takes, WorldRun}
use Rattle.ds_core.proofs.Did.{Did, did, nothing, edit_begins, work_begins, show_begins, recovery_begins, migration_begins, steps, offers, evicts, stops, crashes}
use Rattle.ds_core.specs.declared.event.Event.{Event}
use Rattle.ds_core.specs.declared.reply.Reply.{Reply}
use Rattle.ds_core.specs.declared.reply.Reply.TheVariants.{Stepped}

-- an edit whose step is replied Stepped has no outcome
pub unanswered_at : (processes number : ℕ) (o : Option Outcome) → Stepped ≡ reply_with processes number o → o ≡ None
unanswered_at processes number None is = refl
unanswered_at processes number (Some how) is = absurd (cc)

-- after a step that is no answer the process is in the edit at its next stage
pub after_on : (e : PlainEditCall) (s : Stage) (word : ℕ) → outcome_at s ≡ None → after e s word ≡ Editing (record e { stage = next_at e s word })
after_on e (Answer how) word is = absurd (cc)
after_on e _ word is = refl

falls_on : (e : PlainEditCall) (s x : Stage) → outcome_at s ≡ None → Falls e s x → rank e x < rank e s
falls_on e (Answer how) x is h = absurd (cc)
falls_on e _ x is h = h

-- a situation is that of one edit alone
pub editing_same : (s : Situation) (e f : PlainEditCall) → s ≡ Editing e → s ≡ Editing f → e ≡ f
editing_same s e f a b = let one : Editing e ≡ Editing f = sym a ∙ b in cc

-- the process is in the edit that this one has come to be, with fewer steps left
pub record EditGoesOn (p : ℕ) (e : PlainEditCall) (new : WorldValue) : Type 0 where
  pub edit : PlainEditCall
  pub edits : (world_of new).situation p ≡ Editing edit
  pub fewer : rank edit edit.stage < rank e e.stage

-- a step of an edit that is no answer leaves the process in it, with fewer steps
pub edit_goes_on : (old new : WorldValue) (p : ℕ) → IsSound (world_of old) → (h : EditStepsBy old p Stepped new) → EditGoesOn p h.steps.edit new
edit_goes_on old new p sound h =
    let e : PlainEditCall = h.steps.edit in
    let fits : EditFits (world_of old) p e = subst (λ (x : Situation). CallFits (world_of old) p x) h.steps.at (sound.calls p h.steps.there) in
    let goes : outcome_at e.stage ≡ None = unanswered_at old.sheet.layout.processes e.number (outcome_at e.stage) (replied old new p Stepped h) in
    record {
      edit = record e { stage = next_at e e.stage h.steps.word };
      edits = ap (λ q. (world_of new).situation q) (sym h.steps.mine) ∙ h.steps.steps.situation ∙ after_on e e.stage h.steps.word goes;
      fewer = falls_on e e.stage _ goes (each_falls e h.steps.word fits.is);
    }

work_layout : (old new : PlainWorld) (e : PlainWorkCall) (what : Turn WorkEnd) → work_events.TakesTurn e old new what → new.layout ≡ old.layout
work_layout old new e what (work_events.steps word t on) = t.layout
work_layout old new e what (work_events.reads content inputs at t) = t.turn.layout
work_layout old new e what (work_events.lacked at t) = t.layout
work_layout old new e what (work_events.answers end at t) = t.layout

layout_by : (old new : WorldValue) (event : Event) (reply : Reply) → Did old new event reply → new.sheet.layout ≡ old.sheet.layout
layout_by old new _ _ (nothing event reply none is same) = ap (λ (v : WorldValue). v.sheet.layout) same
layout_by old new _ _ (edit_begins r number h) = h.begun.begins.layout
layout_by old new _ _ (work_begins p cell h) = h.begun.begins.turn.layout
layout_by old new _ _ (show_begins p h) = h.begun.begins.layout
layout_by old new _ _ (recovery_begins p h) = h.begun.begins.layout
layout_by old new _ _ (migration_begins p h) = h.begun.layout
layout_by old new _ _ (steps p reply is (edits h)) = h.steps.steps.layout
layout_by old new _ _ (steps p reply is (works h)) = work_layout (world_of old) (world_of new) h.steps.work h.what h.steps.turn
layout_by old new _ _ (steps p reply is (reports h)) = h.steps.steps.layout
layout_by old new _ _ (steps p reply is (recoveries h)) = h.steps.steps.layout
layout_by old new _ _ (steps p reply is (migrations h)) = h.steps.steps.layout
layout_by old new _ _ (offers value h) = h.offered.offers.turn.layout
layout_by old new _ _ (evicts word h) = h.evicts.layout
layout_by old new _ _ (stops p h) = h.stops.layout
layout_by old new _ _ (crashes h) = h.crashes.layout

-- the sheet keeps its layout
pub same_layout : (old new : WorldValue) (event : Event) (reply : Reply) → Takes old event reply new → new.sheet.layout ≡ old.sheet.layout
same_layout old new event reply h = layout_by old new event reply (did old new event reply h)

-- a run keeps a sound world sound
pub run_sound : (events : List Event) (replies : List Reply) (old new : WorldValue) → IsSound (world_of old) → WorldRun old events replies new → IsSound (world_of new)
run_sound [] [] old new sound run = subst (λ (v : WorldValue). IsSound (world_of v)) (sym run) sound
run_sound (event ∷ events) (reply ∷ replies) old new sound run = run_sound events replies run.0 new run.1.good.sound run.2
run_sound [] (reply ∷ replies) old new sound run = absurd run
run_sound (event ∷ events) [] old new sound run = absurd run

-- a run keeps the sheet's layout
pub run_layout : (events : List Event) (replies : List Reply) (old new : WorldValue) → WorldRun old events replies new → new.sheet.layout ≡ old.sheet.layout
run_layout [] [] old new run = ap (λ (v : WorldValue). v.sheet.layout) run
run_layout (event ∷ events) (reply ∷ replies) old new run = run_layout events replies run.0 new run.2 ∙ same_layout old run.0 event reply run.1.takes
run_layout [] (reply ∷ replies) old new run = absurd run
run_layout (event ∷ events) [] old new run = absurd run
