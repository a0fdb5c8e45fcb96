-- An edit that is alone is done.
use Rattle.std.proofs.Common.{ℕ, ◌≡◌, List, [], ◌∷◌, refl, ap, sym, ◌∙◌, subst, Some, None}
use Rattle.std.specs.Prelude.{Option}
use Rattle.ds_layout.specs.declared.place.Place.TheVariants as place
use Rattle.ds_state.specs.Works.{PlainWorkCall, PlainShowCall, PlainRecoverCall, PlainMigrateCall}
use Rattle.ds_state.specs.Edits.{PlainEditCall}
use Rattle.ds_state.specs.World.{PlainWorld}
use Rattle.ds_state.specs.Value.{WorldValue, world_of}
use Rattle.ds_state.specs.Sound.{IsSound}
use Rattle.ds_state.specs.declared.stage.Outcome.{Outcome}
use Rattle.ds_state.specs.declared.stage.Outcome.TheVariants as outcome
use Rattle.ds_state.specs.declared.stage.Stage.{Stage}
use Rattle.ds_state.specs.declared.stage.Stage.TheVariants.{StoreHeader, FlushNoted, BackNoted, OrDone, FlushDone, BackDone, Swap, StoreOutcome, FlushOutcome, BackOutcome, Answer}
use Rattle.ds_state.specs.declared.situation.Situation.{Situation}
use Rattle.ds_state.specs.declared.situation.Situation.TheVariants.{Idle, Editing, Working, Recovering, Showing, Migrating}
use Rattle.ds_edit.specs.EditSteps.{next_at}
use Rattle.ds_edit.specs.EditTakes.{rest_behind, after}
use Rattle.ds_edit.specs.Alone.{IsAloneAt}
use Rattle.ds_edit.proofs.Alone.{alone}
use Rattle.ds_core.specs.EditEvents.{reply_with, EditStepsBy}
use Rattle.ds_core.specs.StepEvents.{edits, works, reports, recoveries, migrations}
use Rattle.ds_state.specs.EditEndings.{outcome_at, end_of}
use Rattle.ds_core.specs.Takes.{Takes, WorldRun}
use Rattle.ds_core.specs.Solo.{IsSoloEvent, IsSolo, IsDoneOnly, AreDoneOnly}
use Rattle.ds_core.proofs.Did.{Did, did, IsNothing, IsOfStep, nothing, edit_begins, work_begins, show_begins, recovery_begins, migration_begins, steps, offers, evicts, stops, crashes}
use Rattle.ds_core.specs.declared.event.Event.{Event}
use Rattle.ds_state.specs.declared.answer.Answer.{Answer as ReplyAnswer}
use Rattle.ds_state.specs.declared.answer.Answer.TheVariants.{Edit}
use Rattle.ds_state.specs.declared.answer.EditEnd.TheVariants.{Done}
use Rattle.ds_core.specs.declared.reply.Reply.{Reply}
use Rattle.ds_core.specs.declared.reply.Reply.TheVariants.{Stepped, Answered}
use Rattle.ds_edit.proofs.Driving.{answers_at}
use Rattle.ds_core.proofs.Replied.{replied}
use Rattle.ds_core.proofs.Bound.{unanswered_at, after_on, editing_same}

alone_same : (w w' : PlainWorld) (cell : ℕ) (s : Stage) → w'.memory.cached (place.Head cell) ≡ w.memory.cached (place.Head cell) → IsAloneAt w cell s → IsAloneAt w' cell s
alone_same w w' cell (FlushNoted head) same h = h ∙ sym same
alone_same w w' cell (BackNoted head) same h = h ∙ sym same
alone_same w w' cell (OrDone head) same h = h ∙ sym same
alone_same w w' cell (FlushDone head) same h = h ∙ sym same
alone_same w w' cell (BackDone head) same h = h ∙ sym same
alone_same w w' cell (Swap noted) same h = h ∙ sym same
alone_same w w' cell (StoreOutcome how) same h = h
alone_same w w' cell (FlushOutcome how) same h = h
alone_same w w' cell (BackOutcome how) same h = h
alone_same w w' cell (Answer how) same h = h
alone_same w w' cell _ same h = tt

-- in an edit, or in no call
abbrev pub EditsOnly : Situation → Type 0
EditsOnly (Idle next) = Unit {0}
EditsOnly (Editing e) = Unit {0}
EditsOnly _ = ⊥

-- the process is in no other call; its edit, where it is in one, has this number and is alone
pub record IsAlone (v : WorldValue) (p number : ℕ) : Type 0 where
  pub only : EditsOnly ((world_of v).situation p)
  pub edit : (e : PlainEditCall) → (world_of v).situation p ≡ Editing e → (e.number ≡ number) × IsAloneAt (world_of v) e.cell e.stage

-- an edit whose step is answered has an outcome, and the answer is that
pub some_outcome : (processes number : ℕ) (a : ReplyAnswer) (o : Option Outcome) → Answered a ≡ reply_with processes number o → (how : Outcome) × (o ≡ Some how) × (a ≡ Edit (end_of processes number how))
some_outcome processes number a None is = absurd (cc)
some_outcome processes number a (Some how) is = (how, refl, cc)

-- after its answer an edit's process is idle, with the next number
pub after_answer : (e : PlainEditCall) (s : Stage) (how : Outcome) (word : ℕ) → s ≡ Answer how → after e s word ≡ Idle (rest_behind e)
after_answer e s how word is = ap (λ x. after e x word) is

module _ (old new : WorldValue) (sound : IsSound (world_of old)) (p number : ℕ) (a : IsAlone old p number) where
  situation_now : (h : PlainEditCall) (q : ℕ) → h.process ≡ q → q ≡ p → (s : Situation) → (world_of new).situation h.process ≡ s → (world_of new).situation p ≡ s
  situation_now h q mine same s is = ap (λ x. (world_of new).situation x) (sym (mine ∙ same)) ∙ is

  -- a step of its own that is not answered
  module _ (q : ℕ) (same : q ≡ p) (h : EditStepsBy old q Stepped new) where
    abbrev next : PlainEditCall
    next = record h.steps.edit { stage = next_at h.steps.edit h.steps.edit.stage h.steps.word }

    goes : outcome_at h.steps.edit.stage ≡ None
    goes = unanswered_at old.sheet.layout.processes h.steps.edit.number (outcome_at h.steps.edit.stage) (replied old new q Stepped h)

    now : (world_of new).situation p ≡ Editing next
    now = situation_now h.steps.edit q h.steps.mine same (Editing next) (h.steps.steps.situation ∙ after_on h.steps.edit h.steps.edit.stage h.steps.word goes)

    stepped : IsAlone new p number
    stepped = record {
      only = subst EditsOnly (sym now) tt;
      edit = λ e' is. (
          let before = a.edit h.steps.edit (ap (λ x. (world_of old).situation x) (sym same) ∙ h.steps.at) in
          subst (λ (x : PlainEditCall). (x.number ≡ number) × IsAloneAt (world_of new) x.cell x.stage) (editing_same ((world_of new).situation p) next e' now is)
          (before.0, alone h.steps.edit h.steps.word (world_of old) (world_of new) sound h.steps.edit.stage h.steps.steps.memory before.1));
    }

  -- its answer
  module _ (q : ℕ) (answer : ReplyAnswer) (same : q ≡ p) (h : EditStepsBy old q (Answered answer) new) where
    found : (how : Outcome) × (outcome_at h.steps.edit.stage ≡ Some how) × (answer ≡ Edit (end_of old.sheet.layout.processes h.steps.edit.number how))
    found = some_outcome old.sheet.layout.processes h.steps.edit.number answer (outcome_at h.steps.edit.stage) (replied old new q (Answered answer) h)

    last : h.steps.edit.stage ≡ Answer found.0
    last = answers_at h.steps.edit.stage found.0 found.1

    over : (world_of new).situation p ≡ Idle (rest_behind h.steps.edit)
    over = situation_now h.steps.edit q h.steps.mine same _ (h.steps.steps.situation ∙ after_answer h.steps.edit h.steps.edit.stage found.0 h.steps.word last)

    answered : (answer ≡ Edit (Done number)) × IsAlone new p number
    answered =
        let before = a.edit h.steps.edit (ap (λ x. (world_of old).situation x) (sym same) ∙ h.steps.at) in
        let done : found.0 ≡ outcome.Done = subst (λ (s : Stage). IsAloneAt (world_of old) h.steps.edit.cell s) last before.1 in (
          found.2 ∙ ap (λ how. Edit (end_of old.sheet.layout.processes h.steps.edit.number how)) done ∙ ap (λ n. Edit (Done n)) before.0,
          record {
            only = subst EditsOnly (sym over) tt;
            edit = λ e' is. absurd (let bad : Idle (rest_behind h.steps.edit) ≡ Editing e' = sym over ∙ is in cc);
          },
        )

  -- it is in no show
  no_show : (q : ℕ) → q ≡ p → (f : PlainShowCall) → (world_of old).situation q ≡ Showing f → ⊥
  no_show q same f is = subst EditsOnly (ap (λ x. (world_of old).situation x) (sym same) ∙ is) a.only

  no_work : (q : ℕ) → q ≡ p → (f : PlainWorkCall) → (world_of old).situation q ≡ Working f → ⊥
  no_work q same f is = subst EditsOnly (ap (λ x. (world_of old).situation x) (sym same) ∙ is) a.only

  no_recovery : (q : ℕ) → q ≡ p → (f : PlainRecoverCall) → (world_of old).situation q ≡ Recovering f → ⊥
  no_recovery q same f is = subst EditsOnly (ap (λ x. (world_of old).situation x) (sym same) ∙ is) a.only

  no_migration : (q : ℕ) → q ≡ p → (f : PlainMigrateCall) → (world_of old).situation q ≡ Migrating f → ⊥
  no_migration q same f is = subst EditsOnly (ap (λ x. (world_of old).situation x) (sym same) ∙ is) a.only

  unchanged : new ≡ old → IsAlone new p number
  unchanged same = subst (λ (v : WorldValue). IsAlone v p number) (sym same) a

  silent : (reply : Reply) → IsNothing reply → IsDoneOnly number reply
  silent (Answered answer) none = absurd none
  silent _ none = tt

  by_edit : (q : ℕ) (reply : Reply) → q ≡ p → IsOfStep reply → EditStepsBy old q reply new → IsDoneOnly number reply × IsAlone new p number
  by_edit q Stepped same is h = (tt, stepped q same h)
  by_edit q (Answered answer) same is h = answered q answer same h
  by_edit q _ same is h = absurd is

  by : (event : Event) (reply : Reply) → Did old new event reply → IsSoloEvent p event → IsDoneOnly number reply × IsAlone new p number
  by _ _ (nothing event reply none is same) solo = (silent reply none, unchanged same)
  by _ _ (edit_begins r n h) solo = absurd solo
  by _ _ (work_begins q cell h) solo = absurd solo
  by _ _ (show_begins q h) solo = absurd solo
  by _ _ (recovery_begins q h) solo = absurd solo
  by _ _ (migration_begins q h) solo = absurd solo
  by _ _ (steps q reply is (edits h)) same = by_edit q reply same is h
  by _ _ (steps q reply is (works h)) same = absurd (no_work q same h.steps.work h.steps.works)
  by _ _ (steps q reply is (reports h)) same = absurd (no_show q same h.steps.show h.steps.at)
  by _ _ (steps q reply is (recoveries h)) same = absurd (no_recovery q same h.steps.recovery h.steps.at)
  by _ _ (steps q reply is (migrations h)) same = absurd (no_migration q same h.steps.migration h.steps.at)
  by _ _ (offers value h) solo = absurd solo
  by _ _ (evicts word h) solo = (
    tt,
    record {
      only = subst EditsOnly (sym (h.evicts.situation p)) a.only;
      edit = λ e is. let before = a.edit e (sym (h.evicts.situation p) ∙ is) in (before.0, alone_same (world_of old) (world_of new) e.cell e.stage (h.evicts.memory.cached (place.Head e.cell)) before.1);
    },
  )
  by _ _ (stops q h) solo = absurd solo
  by _ _ (crashes h) solo = absurd solo

  pub one_event : (event : Event) (reply : Reply) → Takes old event reply new → IsSoloEvent p event → IsDoneOnly number reply × IsAlone new p number
  one_event event reply h solo = by event reply (did old new event reply h) solo

pub solo_run : (events : List Event) (replies : List Reply) (old new : WorldValue) (p number : ℕ) → IsSound (world_of old) → IsAlone old p number → WorldRun old events replies new → IsSolo p events → AreDoneOnly number replies
solo_run [] [] old new p number sound a run solo = tt
solo_run (event ∷ events) (reply ∷ replies) old new p number sound a run solo =
    let first = one_event old run.0 sound p number a event reply run.1.takes solo.0 in
    (first.0, solo_run events replies run.0 new p number run.1.good.sound first.1 run.2 solo.1)
solo_run [] (reply ∷ replies) old new p number sound a run solo = absurd run
solo_run (event ∷ events) [] old new p number sound a run solo = absurd run

-- each answer to an edit that is alone is Done with its number
pub solo_done : (old : WorldValue) (events : List Event) (replies : List Reply) (new : WorldValue) (p : ℕ) (e : PlainEditCall) → IsSound (world_of old)
    → (world_of old).situation p ≡ Editing e → e.stage ≡ StoreHeader → WorldRun old events replies new → IsSolo p events → AreDoneOnly e.number replies
solo_done old events replies new p e sound at first run solo = solo_run events replies old new p e.number sound starts run solo
  where
    first_edit : (e' : PlainEditCall) → (world_of old).situation p ≡ Editing e' → (e'.number ≡ e.number) × IsAloneAt (world_of old) e'.cell e'.stage
    first_edit e' is =
        let one : e ≡ e' = editing_same ((world_of old).situation p) e e' at is in
        subst (λ (x : PlainEditCall). (x.number ≡ e.number) × IsAloneAt (world_of old) x.cell x.stage) one (refl, subst (λ (s : Stage). IsAloneAt (world_of old) e.cell s) (sym first) tt)

    starts : IsAlone old p e.number
    starts = record { only = subst EditsOnly (sym at) tt; edit = λ e' is. first_edit e' is }
