-- What a step of a process is, whatever call it is in.
use Rattle.std.proofs.Common.{ℕ, ◌≡◌, ◌<◌, ◌∙◌, refl, sym, ap, subst, List, [], Bool, true, false}
use Rattle.std.specs.Prelude.{◌≢◌, Option, Some, None, slice_index_or}
use Rattle.ds_words.specs.declared.access.Access.{Access}
use Rattle.ds_formula.specs.declared.cells.Shape.{Shape}
use Rattle.ds_formula.specs.Plain.{PlainContent}
use Rattle.ds_eval.specs.declared.inputs.Input.{Input}
use Rattle.ds_layout.specs.declared.layout.Layout.{Layout}
use Rattle.ds_layout.specs.declared.place.Place.{Place}
use Rattle.ds_layout.specs.SheetMemory.{memory, PerformsAt}
use Rattle.ds_state.specs.Value.{WorldValue, world_of}
use Rattle.ds_state.specs.Reports.{with_report}
use Rattle.ds_state.specs.Works.{PlainWorkCall, PlainShowCall}
use Rattle.ds_state.specs.declared.answer.Answer.{Answer}
use Rattle.ds_state.specs.declared.answer.Answer.TheVariants as answers
use Rattle.ds_state.specs.declared.show.ShowEnd.{ShowEnd}
use Rattle.ds_state.specs.declared.show.ShowEnd.TheVariants.{Settled, Unsettled}
use Rattle.ds_state.specs.declared.situation.Situation.{Situation}
use Rattle.ds_state.specs.declared.situation.Situation.TheVariants.{Idle, Stopped, Editing, Working, Showing, Recovering, Migrating}
use Rattle.ds_state.specs.declared.turn.Turn.{Turn}
use Rattle.ds_state.specs.declared.turn.Turn.TheVariants as does
use Rattle.ds_state.specs.declared.work.WorkEnd.{WorkEnd}
use Rattle.ds_state.specs.declared.work.WorkStage.{WorkStage}
use Rattle.ds_state.specs.declared.work.WorkStage.TheVariants as stages
use Rattle.ds_edit.specs.EditTakes as edits
use Rattle.ds_work.specs.WorkSteps as works
use Rattle.ds_work.specs.WorkTakes as turns
use Rattle.ds_show.specs.ShowSteps as shows
use Rattle.ds_show.specs.ShowTakes as show_takes
use Rattle.ds_recover.specs.RecoverySteps as recoveries
use Rattle.ds_recover.specs.RecoverTakes as recovery_takes
use Rattle.ds_recover.specs.MigrationSteps as migrations
use Rattle.ds_recover.specs.MigrationTakes as migration_takes
use Rattle.ds_core.specs.EditEvents.{EditStepsBy, edit_reply}
use Rattle.ds_core.specs.WorkEvents.{WorkStepsBy, work_reply}
use Rattle.ds_core.specs.ShowEvents.{ShowStepsBy, show_reply}
use Rattle.ds_core.specs.RecoveryEvents.{RecoveryStepsBy, recovery_reply}
use Rattle.ds_core.specs.MigrationEvents.{MigrationStepsBy, migration_reply}
use Rattle.ds_core.specs.Replies.{reply_of}
use Rattle.ds_core.specs.StepEvents.{StepsBy}
use Rattle.ds_core.specs.StepEvents as by
use Rattle.ds_core.specs.declared.reply.Reply.{Reply}
use Rattle.ds_core.specs.declared.reply.Reply.TheVariants as replies
use Rattle.ds_explore_state.specs.Orders.{access_in, IsReadAnew, ReadsWhereItShould}
use Rattle.ds_explore_state.proofs.Readings.{AreUnseen, inputs_of, read_alike}

-- what a step does to a work at its stage
abbrev pub work_turn : WorkStage → Turn WorkEnd
work_turn (stages.Answer end) = does.Answers end
work_turn _ = does.GoesOn

-- the reply to the step of a process in this situation, where the sheet has that many processes
abbrev pub reply_in : ℕ → Situation → Reply
reply_in processes (Editing e) = edit_reply (edits.turn_at processes e.number e.stage)
reply_in processes (Working e) = work_reply (work_turn e.stage)
reply_in processes (Showing e) = show_reply (shows.effect_at e.stage)
reply_in processes (Recovering e) = recovery_reply (recoveries.effect_at e e.stage)
reply_in processes (Migrating e) = migration_reply (migration_takes.effect_at e.stage)
reply_in processes _ = replies.NotEnabled

-- what a step makes of a work, whose access answered the word
pub data WorkGoes (shape : Shape) (e : PlainWorkCall) (word : ℕ) (after : Situation) : Type 0 where
  by_step : works.IsPlainStep e.stage → after ≡ works.after e e.stage word → WorkGoes shape e word after
  by_reading : (content : PlainContent) (inputs : List Input) → e.stage ≡ stages.Read → works.IsContent shape e.text content inputs → after ≡ Working (works.read_from e content inputs) → WorkGoes shape e word after
  by_lack : e.stage ≡ stages.Read → after ≡ Working (works.lacks e) → WorkGoes shape e word after

-- what a step makes of the situation of its process, where its access answered the word
abbrev pub GoesTo : Shape → Situation → ℕ → Situation → Type 0
GoesTo shape (Editing e) word after = after ≡ edits.after e e.stage word
GoesTo shape (Working e) word after = WorkGoes shape e word after
GoesTo shape (Showing e) word after = after ≡ shows.after e e.stage word
GoesTo shape (Recovering e) word after = after ≡ recoveries.after e e.stage word
GoesTo shape (Migrating e) word after = after ≡ migrations.after e e.stage word
GoesTo shape _ word after = ⊥

-- a step of a process: the access of its situation, what that makes of the situation, and the reply
pub record Goes (v : WorldValue) (p : ℕ) (reply : Reply) (w : WorldValue) : Type 0 where
  pub there : p < v.sheet.layout.processes
  pub call : Situation
  pub at : (world_of v).situation p ≡ call
  pub word : ℕ
  pub layout : w.sheet.layout ≡ v.sheet.layout
  pub performs : PerformsAt (access_in v.sheet.layout.shape (Some call)) p (memory v.sheet) (memory w.sheet) word
  pub goes : GoesTo v.sheet.layout.shape call word ((world_of w).situation p)
  pub others : (q : ℕ) → q ≢ p → (world_of w).situation q ≡ (world_of v).situation q
  pub is : reply ≡ reply_in v.sheet.layout.processes call
  pub reports : reply ≡ replies.Answered (answers.Show Settled) → (e : PlainShowCall) × (call ≡ Showing e) × (w.reports ≡ with_report v.reports p (shows.answered e))

-- ---- each machine

no_show_by : {E : Type 0} (answer : E → Answer) (what : Turn E) → ((end : E) → answer end ≡ answers.Show Settled → ⊥) → reply_of answer what ≡ replies.Answered (answers.Show Settled) → ⊥
no_show_by answer does.GoesOn none e = cc
no_show_by answer (does.Answers end) none e = none end (let k : answer end ≡ answers.Show Settled = cc in k)

edit_goes : (v w : WorldValue) (p : ℕ) (reply : Reply) → EditStepsBy v p reply w → Goes v p reply w
edit_goes v w p reply s =
    let k = s.steps in
    record {
      there = k.there;
      call = Editing k.edit;
      at = k.at;
      word = k.word;
      layout = k.steps.layout;
      performs = subst (λ (q : ℕ). PerformsAt (access_in v.sheet.layout.shape (Some (Editing k.edit))) q (memory v.sheet) (memory w.sheet) k.word) k.mine k.steps.memory;
      goes = subst (λ (q : ℕ). (world_of w).situation q ≡ edits.after k.edit k.edit.stage k.word) k.mine k.steps.situation;
      others = λ q ne. k.steps.others q (λ e. ne (e ∙ k.mine));
      is = s.is ∙ ap edit_reply k.is;
      reports = λ e. absurd (no_show_by answers.Edit s.what (λ end f. (let bad : ⊥ = cc in bad)) (sym s.is ∙ e));
    }

show_reports : (v w : WorldValue) (p : ℕ) (e : PlainShowCall) (what : Turn ShowEnd) → show_reply what ≡ replies.Answered (answers.Show Settled) → w.reports ≡ show_takes.reports_by v.reports e what → w.reports ≡ with_report v.reports e.process (shows.answered e)
show_reports v w p e does.GoesOn f is = cc
show_reports v w p e (does.Answers Settled) f is = is
show_reports v w p e (does.Answers (Unsettled place word)) f is = cc

show_goes : (v w : WorldValue) (p : ℕ) (reply : Reply) → ShowStepsBy v p reply w → Goes v p reply w
show_goes v w p reply s =
    let k = s.steps in
    record {
      there = k.there;
      call = Showing k.show;
      at = k.at;
      word = k.word;
      layout = k.steps.layout;
      performs = subst (λ (q : ℕ). PerformsAt (access_in v.sheet.layout.shape (Some (Showing k.show))) q (memory v.sheet) (memory w.sheet) k.word) k.mine k.steps.memory;
      goes = subst (λ (q : ℕ). (world_of w).situation q ≡ shows.after k.show k.show.stage k.word) k.mine k.steps.situation;
      others = λ q ne. k.steps.others q (λ e. ne (e ∙ k.mine));
      is = s.is ∙ ap show_reply k.is;
      reports = λ e. (k.show, refl, subst (λ (q : ℕ). w.reports ≡ with_report v.reports q (shows.answered k.show)) k.mine (show_reports v w p k.show s.what (sym s.is ∙ e) k.reports));
    }

recovery_goes : (v w : WorldValue) (p : ℕ) (reply : Reply) → RecoveryStepsBy v p reply w → Goes v p reply w
recovery_goes v w p reply s =
    let k = s.steps in
    record {
      there = k.there;
      call = Recovering k.recovery;
      at = k.at;
      word = k.word;
      layout = k.steps.layout;
      performs = subst (λ (q : ℕ). PerformsAt (access_in v.sheet.layout.shape (Some (Recovering k.recovery))) q (memory v.sheet) (memory w.sheet) k.word) k.mine k.steps.memory;
      goes = subst (λ (q : ℕ). (world_of w).situation q ≡ recoveries.after k.recovery k.recovery.stage k.word) k.mine k.steps.situation;
      others = λ q ne. k.steps.others q (λ e. ne (e ∙ k.mine));
      is = s.is ∙ ap recovery_reply k.is;
      reports = λ e. absurd (no_show_by answers.Recovery s.what (λ end f. (let bad : ⊥ = cc in bad)) (sym s.is ∙ e));
    }

migration_goes : (v w : WorldValue) (p : ℕ) (reply : Reply) → MigrationStepsBy v p reply w → Goes v p reply w
migration_goes v w p reply s =
    let k = s.steps in
    record {
      there = k.there;
      call = Migrating k.migration;
      at = k.at;
      word = k.word;
      layout = k.steps.layout;
      performs = subst (λ (q : ℕ). PerformsAt (access_in v.sheet.layout.shape (Some (Migrating k.migration))) q (memory v.sheet) (memory w.sheet) k.word) k.mine k.steps.memory;
      goes = subst (λ (q : ℕ). (world_of w).situation q ≡ migrations.after k.migration k.migration.stage k.word) k.mine k.steps.situation;
      others = λ q ne. k.steps.others q (λ e. ne (e ∙ k.mine));
      is = s.is ∙ ap migration_reply k.is;
      reports = λ e. absurd (no_show_by answers.Migration s.what (λ end f. (let bad : ⊥ = cc in bad)) (sym s.is ∙ e));
    }

work_goes_on : (s : WorkStage) → ((end : WorkEnd) → s ≡ stages.Answer end → ⊥) → work_turn s ≡ does.GoesOn
work_goes_on (stages.Answer end) none = absurd (none end refl)
work_goes_on _ none = refl

module _ (v w : WorldValue) (p : ℕ) (reply : Reply) (e : PlainWorkCall) (there : p < v.sheet.layout.processes) (mine : e.process ≡ p) (at : (world_of v).situation p ≡ Working e) where
  no_report : (what : Turn WorkEnd) → reply ≡ work_reply what → reply ≡ replies.Answered (answers.Show Settled) → (f : PlainShowCall) × (◌≡◌ {A = Situation} (Working e) (Showing f)) × (w.reports ≡ with_report v.reports p (shows.answered f))
  no_report what is f = absurd (no_show_by answers.Work what (λ end g. (let bad : ⊥ = cc in bad)) (sym is ∙ f))

  by_turn : (f : PlainWorkCall) (stage : e.stage ≡ stages.Read) → reply ≡ work_reply does.GoesOn → works.Turns e f (world_of v) (world_of w) → WorkGoes v.sheet.layout.shape e 0 ((world_of w).situation p) → Goes v p reply w
  by_turn f stage is turn goes = record {
    there = there;
    call = Working e;
    at = at;
    word = 0;
    layout = turn.layout;
    performs = subst (λ (s : WorkStage). PerformsAt (works.access_at v.sheet.layout.shape e s) p (memory v.sheet) (memory w.sheet) 0) (sym stage) (refl, turn.memory);
    goes = goes;
    others = λ q ne. turn.others q (λ g. ne (g ∙ mine));
    is = is ∙ ap (λ (s : WorkStage). work_reply (work_turn s)) (sym stage);
    reports = no_report does.GoesOn is;
  }

  by_stage : (word : ℕ) → works.StepsAt e e.stage word (world_of v) (world_of w) → reply ≡ work_reply (work_turn e.stage) → Goes v p reply w
  by_stage word s is = record {
    there = there;
    call = Working e;
    at = at;
    word = word;
    layout = s.layout;
    performs = subst (λ (q : ℕ). PerformsAt (works.access_at v.sheet.layout.shape e e.stage) q (memory v.sheet) (memory w.sheet) word) mine s.memory;
    goes = by_step s.plain (subst (λ (q : ℕ). (world_of w).situation q ≡ works.after e e.stage word) mine s.situation);
    others = λ q ne. s.others q (λ g. ne (g ∙ mine));
    is = is;
    reports = no_report (work_turn e.stage) is;
  }

  by_what : (what : Turn WorkEnd) → reply ≡ work_reply what → turns.TakesTurn e (world_of v) (world_of w) what → Goes v p reply w
  by_what what is (turns.steps word s none) = by_stage word s (is ∙ ap work_reply (sym (work_goes_on e.stage none)))
  by_what what is (turns.reads content inputs stage s) =
      by_turn (works.read_from e content inputs) stage is s.turn (by_reading content inputs stage s.is (subst (λ (q : ℕ). (world_of w).situation q ≡ Working (works.read_from e content inputs)) mine s.turn.situation))
  by_what what is (turns.lacked stage s) =
      by_turn (works.lacks e) stage is s (by_lack stage (subst (λ (q : ℕ). (world_of w).situation q ≡ Working (works.lacks e)) mine s.situation))
  by_what what is (turns.answers end stage s) =
      by_stage 0 (subst (λ (t : WorkStage). works.StepsAt e t 0 (world_of v) (world_of w)) (sym stage) s) (is ∙ ap (λ (t : WorkStage). work_reply (work_turn t)) (sym stage))

pub goes_by : (v w : WorldValue) (p : ℕ) (reply : Reply) → StepsBy v p reply w → Goes v p reply w
goes_by v w p reply (by.edits s) = edit_goes v w p reply s
goes_by v w p reply (by.works s) = by_what v w p reply s.steps.work s.steps.inside s.steps.mine s.steps.works s.what s.is s.steps.turn
goes_by v w p reply (by.reports s) = show_goes v w p reply s
goes_by v w p reply (by.recoveries s) = recovery_goes v w p reply s
goes_by v w p reply (by.migrations s) = migration_goes v w p reply s

-- ---- what a step makes of a situation, once

-- a work that has read its text
read_is : (e : PlainWorkCall) (content : PlainContent) (inputs : List Input) (s : Situation) → s ≡ Working (works.read_from e content inputs) → IsReadAnew s → AreUnseen inputs
read_is e content inputs s is read =
    let k : IsReadAnew (Working (works.read_from e content inputs)) = subst IsReadAnew is read in
    subst AreUnseen (inputs_of e content inputs) k.1

lacks_none : (e : PlainWorkCall) (s : Situation) → s ≡ Working (works.lacks e) → IsReadAnew s → ⊥
lacks_none e s is read = let k : IsReadAnew (Working (works.lacks e)) = subst IsReadAnew is read in k.0 refl

work_once : (shape : Shape) (e : PlainWorkCall) (word : ℕ) (s t : Situation) → WorkGoes shape e word s → WorkGoes shape e word t → (e.stage ≡ stages.Read → IsReadAnew s) → (e.stage ≡ stages.Read → IsReadAnew t) → t ≡ s
work_once shape e word s t (by_step plain is) (by_step also is2) a b = is2 ∙ sym is
work_once shape e word s t (by_step plain is) (by_reading c xs stage of is2) a b = absurd (let bad : works.IsPlainStep stages.Read = subst works.IsPlainStep stage plain in bad)
work_once shape e word s t (by_step plain is) (by_lack stage is2) a b = absurd (lacks_none e t is2 (b stage))
work_once shape e word s t (by_reading c xs stage of is) (by_step plain is2) a b = absurd (let bad : works.IsPlainStep stages.Read = subst works.IsPlainStep stage plain in bad)
work_once shape e word s t (by_reading c xs stage of is) (by_reading d ys also of2 is2) a b =
    is2 ∙ ap Working (read_alike shape e c d xs ys of of2 (read_is e c xs s is (a stage)) (read_is e d ys t is2 (b stage))) ∙ sym is
work_once shape e word s t (by_reading c xs stage of is) (by_lack also is2) a b = absurd (lacks_none e t is2 (b stage))
work_once shape e word s t (by_lack stage is) k a b = absurd (lacks_none e s is (a stage))

pub goes_once : (shape : Shape) (call : Situation) (word : ℕ) (s t : Situation) → GoesTo shape call word s → GoesTo shape call word t → ReadsWhereItShould call s → ReadsWhereItShould call t → t ≡ s
goes_once shape (Editing e) word s t h k a b = k ∙ sym h
goes_once shape (Working e) word s t h k a b = work_once shape e word s t h k a b
goes_once shape (Showing e) word s t h k a b = k ∙ sym h
goes_once shape (Recovering e) word s t h k a b = k ∙ sym h
goes_once shape (Migrating e) word s t h k a b = k ∙ sym h
goes_once shape (Idle rest) word s t h k a b = absurd h
goes_once shape Stopped word s t h k a b = absurd h
