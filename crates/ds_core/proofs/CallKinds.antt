-- A step of a call stays in a call of its kind, or is answered as calls of its kind are.
use Rattle.std.proofs.Common.{ℕ, ◌≡◌, refl, sym, ap, ◌∙◌, subst}
use Rattle.ds_state.specs.declared.turn.Turn.{Turn}
use Rattle.ds_state.specs.Value.{WorldValue, world_of}
use Rattle.ds_state.specs.Sound.{IsSound}
use Rattle.ds_state.specs.Edits.{PlainEditCall}
use Rattle.ds_state.specs.Works.{PlainWorkCall, PlainShowCall, PlainRecoverCall, PlainMigrateCall}
use Rattle.ds_state.specs.declared.situation.Situation.{Situation}
use Rattle.ds_state.specs.declared.situation.Situation.TheVariants.{Idle, Stopped, Editing, Working, Recovering, Showing, Migrating}
use Rattle.ds_state.specs.declared.stage.Stage.{Stage}
use Rattle.ds_state.specs.declared.stage.Stage.TheVariants as stages
use Rattle.ds_state.specs.declared.work.WorkEnd.{WorkEnd}
use Rattle.ds_state.specs.declared.show.ShowStage.{ShowStage}
use Rattle.ds_state.specs.declared.show.ShowStage.TheVariants as show_stages
use Rattle.ds_state.specs.declared.recovery.RecoverStage.{RecoverStage}
use Rattle.ds_state.specs.declared.recovery.RecoverStage.TheVariants as recover_stages
use Rattle.ds_edit.specs.EditTakes as edit_worlds
use Rattle.ds_state.specs.declared.answer.Answer.{Answer}
use Rattle.ds_state.specs.declared.answer.Answer.TheVariants.{Edit, Work, Show, Recovery, Migration}
use Rattle.ds_state.specs.declared.situation.Rest.{Rest}
use Rattle.ds_state.specs.declared.migration.MigrateStage.{MigrateStage}
use Rattle.ds_state.specs.declared.migration.MigrateStage.TheVariants as migrate_stages
use Rattle.ds_recover.specs.MigrationSteps as migration_steps
use Rattle.ds_recover.specs.MigrationTakes as migration_takes
use Rattle.ds_work.specs.WorkSteps as work_steps
use Rattle.ds_work.specs.WorkTakes as work_events
use Rattle.ds_state.specs.declared.turn.Turn.TheVariants as turns
use Rattle.ds_work.proofs.Turning.{turns_fall}
use Rattle.ds_show.specs.ShowSteps as show_steps
use Rattle.ds_recover.specs.RecoverySteps as recovery_steps
use Rattle.ds_state.specs.EditEndings.{end_of, outcome_at}
use Rattle.ds_core.specs.MigrationEvents.{MigrationStepsBy, migration_reply}
use Rattle.ds_core.specs.EditEvents.{EditStepsBy, reply_with}
use Rattle.ds_core.proofs.Replied.{replied}
use Rattle.ds_core.specs.WorkEvents.{WorkStepsBy, work_reply}
use Rattle.ds_core.specs.ShowEvents.{ShowStepsBy, show_reply}
use Rattle.ds_core.specs.RecoveryEvents.{RecoveryStepsBy, recovery_reply}
use Rattle.ds_core.specs.StepEvents.{StepsBy, edits, works, reports, recoveries, migrations}
use Rattle.ds_core.specs.Own.{IsInCall}
use Rattle.ds_core.specs.declared.reply.Reply.TheVariants.{Stepped, Answered}
use Rattle.ds_core.proofs.Bound.{edit_goes_on}
use Rattle.ds_core.specs.Kinds.{IsEditAnswer, IsWorkAnswer, IsShowAnswer, IsRecoveryAnswer, IsMigrationAnswer, AnswersTo, RestsAs}

-- ---- a step that goes on

-- the process is still in a call of the same kind
pub record StaysIn (old : WorldValue) (p : ℕ) (new : WorldValue) : Type 0 where
  pub calls : IsInCall ((world_of new).situation p)
  pub same : (answer : Answer) → AnswersTo ((world_of new).situation p) answer → AnswersTo ((world_of old).situation p) answer

-- two situations of one kind
stays_by : (old new : WorldValue) (p : ℕ) (s t : Situation) → (world_of old).situation p ≡ s → (world_of new).situation p ≡ t → IsInCall t → ((answer : Answer) → AnswersTo t answer → AnswersTo s answer) → StaysIn old p new
stays_by old new p s t was now calls same = record {
  calls = subst IsInCall (sym now) calls;
  same = λ answer h. subst (λ (x : Situation). AnswersTo x answer) (sym was) (same answer (subst (λ (x : Situation). AnswersTo x answer) now h));
}

edit_stays : (old new : WorldValue) (p : ℕ) → IsSound (world_of old) → EditStepsBy old p Stepped new → StaysIn old p new
edit_stays old new p sound h = let g = edit_goes_on old new p sound h in stays_by old new p (Editing h.steps.edit) (Editing g.edit) h.steps.at g.edits tt (λ answer x. x)

work_stays : (old new : WorldValue) (p : ℕ) → IsSound (world_of old) → WorkStepsBy old p Stepped new → StaysIn old p new
work_stays old new p sound h = by h.what h.steps h.is
  where
    by : (what : Turn WorkEnd) → work_events.StepsBy (world_of old) p what (world_of new) → Stepped ≡ work_reply what → StaysIn old p new
    by turns.GoesOn s is = let g = turns_fall p (world_of old) (world_of new) sound s in stays_by old new p (Working s.work) (Working g.work) s.works g.works tt (λ answer x. x)
    by (turns.Answers end) s is = absurd (cc)

-- after a step of a show that is replied Stepped the process is in its next stage
pub show_on : (e : PlainShowCall) (s : ShowStage) (word : ℕ) → Stepped ≡ show_reply (show_steps.effect_at s) → show_steps.after e s word ≡ Showing (show_steps.next_at e s word)
show_on e (show_stages.Answer end) word is = absurd (cc)
show_on e _ word is = refl

show_stays : (old new : WorldValue) (p : ℕ) → ShowStepsBy old p Stepped new → StaysIn old p new
show_stays old new p h =
    let e : PlainShowCall = h.steps.show in
    let goes : Stepped ≡ show_reply (show_steps.effect_at e.stage) = h.is ∙ ap show_reply h.steps.is in
    let now : (world_of new).situation p ≡ Showing (show_steps.next_at e e.stage h.steps.word) = ap (λ q. (world_of new).situation q) (sym h.steps.mine) ∙ h.steps.steps.situation ∙ show_on e e.stage h.steps.word goes in
    stays_by old new p (Showing e) (Showing (show_steps.next_at e e.stage h.steps.word)) h.steps.at now tt (λ answer x. x)

-- the same, of a recovery
pub recovery_on : (e : PlainRecoverCall) (s : RecoverStage) (word : ℕ) → Stepped ≡ recovery_reply (recovery_steps.effect_at e s) → recovery_steps.after e s word ≡ Recovering (recovery_steps.next_at e s word)
recovery_on e (recover_stages.Answer how) word is = absurd (cc)
recovery_on e _ word is = refl

recovery_stays : (old new : WorldValue) (p : ℕ) → RecoveryStepsBy old p Stepped new → StaysIn old p new
recovery_stays old new p h =
    let e : PlainRecoverCall = h.steps.recovery in
    let goes : Stepped ≡ recovery_reply (recovery_steps.effect_at e e.stage) = h.is ∙ ap recovery_reply h.steps.is in
    let now : (world_of new).situation p ≡ Recovering (recovery_steps.next_at e e.stage h.steps.word) =
    ap (λ q. (world_of new).situation q) (sym h.steps.mine) ∙ h.steps.steps.situation ∙ recovery_on e e.stage h.steps.word goes in
    stays_by old new p (Recovering e) (Recovering (recovery_steps.next_at e e.stage h.steps.word)) h.steps.at now tt (λ answer x. x)

pub migration_on : (e : PlainMigrateCall) (s : MigrateStage) (word : ℕ) → Stepped ≡ migration_reply (migration_takes.effect_at s) → migration_steps.after e s word ≡ Migrating (migration_steps.next_at e s word)
migration_on e (migrate_stages.Answer end) word is = absurd (cc)
migration_on e _ word is = refl

migration_stays : (old new : WorldValue) (p : ℕ) → MigrationStepsBy old p Stepped new → StaysIn old p new
migration_stays old new p h =
    let e : PlainMigrateCall = h.steps.migration in
    let goes : Stepped ≡ migration_reply (migration_takes.effect_at e.stage) = h.is ∙ ap migration_reply h.steps.is in
    let now : (world_of new).situation p ≡ Migrating (migration_steps.next_at e e.stage h.steps.word) =
    ap (λ q. (world_of new).situation q) (sym h.steps.mine) ∙ h.steps.steps.situation ∙ migration_on e e.stage h.steps.word goes in
    stays_by old new p (Migrating e) (Migrating (migration_steps.next_at e e.stage h.steps.word)) h.steps.at now tt (λ answer x. x)

-- a step that is not answered leaves the process in a call of the same kind
pub step_stays : (old new : WorldValue) (p : ℕ) → IsSound (world_of old) → StepsBy old p Stepped new → StaysIn old p new
step_stays old new p sound (edits h) = edit_stays old new p sound h
step_stays old new p sound (works h) = work_stays old new p sound h
step_stays old new p sound (reports h) = show_stays old new p h
step_stays old new p sound (recoveries h) = recovery_stays old new p h
step_stays old new p sound (migrations h) = migration_stays old new p h

-- ---- a step that answers

-- the answer is one of the call, and the process rests as it says
pub record EndsIn (old : WorldValue) (p : ℕ) (answer : Answer) (new : WorldValue) : Type 0 where
  pub to : AnswersTo ((world_of old).situation p) answer
  pub rests : RestsAs answer ((world_of new).situation p)

rests_idle : (answer : Answer) (s : Situation) (next : Rest) → s ≡ Idle next → (IsMigrationAnswer answer → ⊥) → RestsAs answer s
rests_idle (Migration end) s next is none = absurd (none tt)
rests_idle _ s next is none = (next, is)

ends_by : (old new : WorldValue) (p : ℕ) (next : Rest) (s : Situation) (answer : Answer) → (world_of old).situation p ≡ s → (world_of new).situation p ≡ Idle next → AnswersTo s answer → (IsMigrationAnswer answer → ⊥) → EndsIn old p answer new
ends_by old new p next s answer was now h none = record { to = subst (λ (x : Situation). AnswersTo x answer) (sym was) h; rests = rests_idle answer ((world_of new).situation p) next now none }

-- no answer is one of two kinds
pub edit_no : (answer : Answer) → IsEditAnswer answer → IsMigrationAnswer answer → ⊥
edit_no (Edit end) h k = k
edit_no _ h k = h

pub work_no : (answer : Answer) → IsWorkAnswer answer → IsMigrationAnswer answer → ⊥
work_no (Work end) h k = k
work_no _ h k = h

pub show_no : (answer : Answer) → IsShowAnswer answer → IsMigrationAnswer answer → ⊥
show_no (Show end) h k = k
show_no _ h k = h

pub recovery_no : (answer : Answer) → IsRecoveryAnswer answer → IsMigrationAnswer answer → ⊥
recovery_no (Recovery end) h k = k
recovery_no _ h k = h

-- an answer by its reply
answer_is : (kind : Answer → Type 0) (a b : Answer) → Answered a ≡ Answered b → kind b → kind a
answer_is kind a b is h = let same : a ≡ b = cc in subst kind (sym same) h

-- what an edit does at a stage that answers
record EditEnds (e : PlainEditCall) (s : Stage) (word : ℕ) (answer : Answer) : Type 0 where
  next : Rest
  after : edit_worlds.after e s word ≡ Idle next
  is : IsEditAnswer answer

edit_answered : (processes : ℕ) (e : PlainEditCall) (s : Stage) (word : ℕ) (answer : Answer) → Answered answer ≡ reply_with processes e.number (outcome_at s) → EditEnds e s word answer
edit_answered processes e (stages.Answer how) word answer is = record { next = edit_worlds.rest_behind e; after = refl; is = answer_is IsEditAnswer answer (Edit (end_of processes e.number how)) is tt }
edit_answered processes e _ word answer is = absurd (cc)

edit_ends : (old new : WorldValue) (p : ℕ) (answer : Answer) → EditStepsBy old p (Answered answer) new → EndsIn old p answer new
edit_ends old new p answer h =
    let g = edit_answered old.sheet.layout.processes h.steps.edit h.steps.edit.stage h.steps.word answer (replied old new p (Answered answer) h) in
    ends_by old new p g.next (Editing h.steps.edit) answer h.steps.at (ap (λ q. (world_of new).situation q) (sym h.steps.mine) ∙ h.steps.steps.situation ∙ g.after) g.is (edit_no answer g.is)

work_ends_in : (old new : WorldValue) (p : ℕ) (answer : Answer) → WorkStepsBy old p (Answered answer) new → EndsIn old p answer new
work_ends_in old new p answer h = by h.what h.steps h.is
  where
    turned : (e : PlainWorkCall) (end : WorkEnd) → e.process ≡ p → (world_of old).situation p ≡ Working e → work_events.TakesTurn e (world_of old) (world_of new) (turns.Answers end) → Answered answer ≡ work_reply (turns.Answers end) → EndsIn old p answer new
    turned e end mine at (work_events.answers _ at_answer s) is =
        let kind = answer_is IsWorkAnswer answer (Work end) is tt in
        ends_by old new p (work_steps.rest_of e) (Working e) answer at (ap (λ q. (world_of new).situation q) (sym mine) ∙ s.situation) kind (work_no answer kind)

    by : (what : Turn WorkEnd) → work_events.StepsBy (world_of old) p what (world_of new) → Answered answer ≡ work_reply what → EndsIn old p answer new
    by (turns.Answers end) s is = turned s.work end s.mine s.works s.turn is
    by turns.GoesOn s is = absurd (cc)

-- what a show does at a stage that answers
record ShowEnds (e : PlainShowCall) (s : ShowStage) (word : ℕ) (answer : Answer) : Type 0 where
  after : show_steps.after e s word ≡ Idle (show_steps.rest_of e)
  is : IsShowAnswer answer

show_answered : (e : PlainShowCall) (s : ShowStage) (word : ℕ) (answer : Answer) → Answered answer ≡ show_reply (show_steps.effect_at s) → ShowEnds e s word answer
show_answered e (show_stages.Answer end) word answer is = record { after = refl; is = answer_is IsShowAnswer answer (Show end) is tt }
show_answered e _ word answer is = absurd (cc)

show_ends : (old new : WorldValue) (p : ℕ) (answer : Answer) → ShowStepsBy old p (Answered answer) new → EndsIn old p answer new
show_ends old new p answer h =
    let g = show_answered h.steps.show h.steps.show.stage h.steps.word answer (h.is ∙ ap show_reply h.steps.is) in
    ends_by old new p (show_steps.rest_of h.steps.show) (Showing h.steps.show) answer h.steps.at (ap (λ q. (world_of new).situation q) (sym h.steps.mine) ∙ h.steps.steps.situation ∙ g.after) g.is (show_no answer g.is)

-- what a recovery does at a stage that answers
record RecoveryEnds (e : PlainRecoverCall) (s : RecoverStage) (word : ℕ) (answer : Answer) : Type 0 where
  next : Rest
  after : recovery_steps.after e s word ≡ Idle next
  is : IsRecoveryAnswer answer

recovery_answered : (e : PlainRecoverCall) (s : RecoverStage) (word : ℕ) (answer : Answer) → Answered answer ≡ recovery_reply (recovery_steps.effect_at e s) → RecoveryEnds e s word answer
recovery_answered e (recover_stages.Answer how) word answer is = record { next = recovery_steps.rest_after e how; after = refl; is = answer_is IsRecoveryAnswer answer (Recovery (recovery_steps.end_of e how)) is tt }
recovery_answered e _ word answer is = absurd (cc)

recovery_ends_in : (old new : WorldValue) (p : ℕ) (answer : Answer) → RecoveryStepsBy old p (Answered answer) new → EndsIn old p answer new
recovery_ends_in old new p answer h =
    let g = recovery_answered h.steps.recovery h.steps.recovery.stage h.steps.word answer (h.is ∙ ap recovery_reply h.steps.is) in
    ends_by old new p g.next (Recovering h.steps.recovery) answer h.steps.at (ap (λ q. (world_of new).situation q) (sym h.steps.mine) ∙ h.steps.steps.situation ∙ g.after) g.is (recovery_no answer g.is)

-- what a migration does at a stage that answers
record MigrationEnds (e : PlainMigrateCall) (s : MigrateStage) (word : ℕ) (answer : Answer) : Type 0 where
  after : migration_steps.after e s word ≡ Stopped
  is : IsMigrationAnswer answer

migration_answered : (e : PlainMigrateCall) (s : MigrateStage) (word : ℕ) (answer : Answer) → Answered answer ≡ migration_reply (migration_takes.effect_at s) → MigrationEnds e s word answer
migration_answered e (migrate_stages.Answer end) word answer is = record { after = refl; is = answer_is IsMigrationAnswer answer (Migration end) is tt }
migration_answered e _ word answer is = absurd (cc)

rests_stopped : (answer : Answer) (s : Situation) → s ≡ Stopped → IsMigrationAnswer answer → RestsAs answer s
rests_stopped (Migration end) s is kind = is
rests_stopped _ s is kind = absurd kind

migration_ends_in : (old new : WorldValue) (p : ℕ) (answer : Answer) → MigrationStepsBy old p (Answered answer) new → EndsIn old p answer new
migration_ends_in old new p answer h =
    let g = migration_answered h.steps.migration h.steps.migration.stage h.steps.word answer (h.is ∙ ap migration_reply h.steps.is) in
    record {
      to = subst (λ (x : Situation). AnswersTo x answer) (sym h.steps.at) g.is;
      rests = rests_stopped answer ((world_of new).situation p) (ap (λ q. (world_of new).situation q) (sym h.steps.mine) ∙ h.steps.steps.situation ∙ g.after) g.is;
    }

-- a step that is answered ends the process's call with an answer of its kind, and the process rests
pub step_ends : (old new : WorldValue) (p : ℕ) (answer : Answer) → StepsBy old p (Answered answer) new → EndsIn old p answer new
step_ends old new p answer (edits h) = edit_ends old new p answer h
step_ends old new p answer (works h) = work_ends_in old new p answer h
step_ends old new p answer (reports h) = show_ends old new p answer h
step_ends old new p answer (recoveries h) = recovery_ends_in old new p answer h
step_ends old new p answer (migrations h) = migration_ends_in old new p answer h
