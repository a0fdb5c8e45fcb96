-- The calls of a sheet, as calls of a structure: what each says of itself.
use Rattle.std.specs.Prelude.{ℕ, ◌≡◌, ◌+◌, if◌then◌else◌, Bool, true, List, [], ◌∷◌, Option}
use Rattle.ds_words.specs.declared.access.Access.{Access}
use Rattle.ds_words.specs.declared.access.Access.TheVariants.{Nothing, Load, Store, Or, SwapIf, Flush, Back}
use Rattle.ds_eval.specs.Local.{local}
use Rattle.ds_eval.specs.Inputs.{entry_in}
use Rattle.ds_layout.specs.declared.layout.Layout.{Layout}
use Rattle.ds_layout.specs.declared.place.Place.{Place}
use Rattle.ds_layout.specs.declared.place.Edition.TheVariants.{Second}
use Rattle.ds_layout.specs.Places.{cells_of}
use Rattle.ds_layout.specs.SheetMemory.{access_at, is_place}
use Rattle.ds_state.specs.CallsFit.{IsSheetOf, HasRefs}
use Rattle.ds_state.specs.EditEndings.{end_of}
use Rattle.ds_state.specs.Edits.{PlainEditCall, IsEdit}
use Rattle.ds_state.specs.RecoverStages.{IsRecovery}
use Rattle.ds_state.specs.ShowStages.{IsShow}
use Rattle.ds_state.specs.Works.{PlainWorkCall, IsWork, PlainShowCall, PlainRecoverCall}
use Rattle.ds_state.specs.declared.answer.EditEnd.{EditEnd}
use Rattle.ds_state.specs.declared.recovery.RecoveryEnd.{RecoveryEnd}
use Rattle.ds_state.specs.declared.recovery.RecoverStage.{RecoverStage}
use Rattle.ds_state.specs.declared.recovery.RecoverStage.TheVariants as recover_stage
use Rattle.ds_state.specs.declared.show.ShowEnd.{ShowEnd}
use Rattle.ds_state.specs.declared.show.ShowStage.{ShowStage}
use Rattle.ds_state.specs.declared.show.ShowStage.TheVariants as show_stage
use Rattle.ds_state.specs.declared.situation.Rest.{Rest}
use Rattle.ds_state.specs.declared.situation.Situation.{Situation}
use Rattle.ds_state.specs.declared.situation.Situation.TheVariants.{Idle, Editing, Working, Recovering, Showing}
use Rattle.ds_state.specs.declared.stage.Outcome.{Outcome}
use Rattle.ds_state.specs.declared.stage.Stage.{Stage}
use Rattle.ds_state.specs.declared.stage.Stage.TheVariants as edit_stage
use Rattle.ds_state.specs.declared.work.WorkStage.{WorkStage}
use Rattle.ds_state.specs.declared.work.WorkStage.TheVariants as work_stage
use Rattle.ds_edit.specs.Begun.{RefersTo}
use Rattle.ds_edit.specs.EditSteps as edit_steps
use Rattle.ds_work.specs.Reading.{IsReading}
use Rattle.ds_work.specs.WorkRank.{steps_left}
use Rattle.ds_work.specs.WorkSteps as work_steps
use Rattle.ds_work.specs.WorkTakes.{IsAskedFor}
use Rattle.ds_show.specs.ShowSteps as show_steps
use Rattle.ds_recover.specs.RecoverBegun.{MayRecover}
use Rattle.ds_recover.specs.RecoverySteps as recovery_steps
use Rattle.ds_recover.specs.RecoverySteps.{next_number}
use Rattle.pm_base.specs.Structures.{Calls}
use Rattle.ds_structure.specs.declared.response.Response.{Response}
use Rattle.ds_structure.specs.declared.response.Response.TheVariants.{Edited, Worked, Shown, Recovered}
use Rattle.ds_structure.specs.declared.sheet.SheetKey.{SheetKey}
use Rattle.ds_structure.specs.declared.work.WorkPause.{WorkPause}
use Rattle.ds_structure.specs.declared.work.WorkPause.TheVariants.{Reads, Waits, Answers}

-- what an idle process knows: the number of its next edit, and the second layout
abbrev pub second_rest : ℕ → Rest
second_rest number = record { number = number; edition = Second }

-- ---- edits

-- a step is left
abbrev pub EditGoes : Stage → Type 0
EditGoes (edit_stage.Answer how) = ⊥
EditGoes _ = Unit {0}

-- the edit has ended so
abbrev pub EditEnds : PlainEditCall → EditEnd → Type 0
EditEnds e end = (how : Outcome) × (e.stage ≡ edit_stage.Answer how) × (end ≡ end_of e.processes e.number how)

-- the process at a stage of its edit: in it, and idle where only the answer is left, which it is given then
abbrev pub edit_doing : PlainEditCall → Stage → Situation
edit_doing e (edit_stage.Answer how) = Idle (second_rest (e.number + 1))
edit_doing e stage = Editing (record e { stage = stage })

-- what it is answered then
abbrev pub edit_says : PlainEditCall → Stage → List Response
edit_says e (edit_stage.Answer how) = Edited (record e { stage = edit_stage.Answer how }) how ∷ []
edit_says e stage = []

-- the edit is one of the sheet
pub record IsEditOn (layout : Layout) (e : PlainEditCall) : Type 0 where
  pub is : IsEdit e
  pub sheet : IsSheetOf layout e

-- an idle process may begin its next edit, at its first stage, in the second layout, with the cells of its text
pub record MayEdit (layout : Layout) (now : Situation) (e : PlainEditCall) : Type 0 where
  pub idle : now ≡ Idle (second_rest e.number)
  pub edition : e.edition ≡ Second
  pub refs : HasRefs layout.shape e.text e.refs
  pub only : RefersTo layout.shape e.text e.refs
  pub first : e.stage ≡ edit_stage.StoreHeader

-- edits, as calls of the structure: each step by the stage of the edit, to its answer
abbrev pub edits : Calls SheetKey Situation Response PlainEditCall EditEnd
edits = record {
  process = λ e. e.process;
  begins = λ key now e. MayEdit key.layout now e;
  doing = λ e. edit_doing e e.stage;
  says = λ e. edit_says e e.stage;
  access = λ key e. access_at key.layout (edit_steps.access_at e e.stage);
  next = edit_steps.got_at;
  goes = λ e. EditGoes e.stage;
  ends = EditEnds;
  fits = λ key e. IsEditOn key.layout e;
  rank = λ e. edit_steps.rank e e.stage;
}

-- ---- works

-- a step that touches a word is left
abbrev pub WorkGoes : WorkStage → Type 0
WorkGoes (work_stage.Answer end) = ⊥
WorkGoes work_stage.Read = ⊥
WorkGoes work_stage.Wait = ⊥
WorkGoes _ = Unit {0}

-- where its steps have led
abbrev pub WorkEnds : WorkStage → WorkPause → Type 0
WorkEnds stage Reads = stage ≡ work_stage.Read
WorkEnds stage Waits = stage ≡ work_stage.Wait
WorkEnds stage (Answers end) = stage ≡ work_stage.Answer end

-- the process at a stage of its work
abbrev pub work_doing : PlainWorkCall → WorkStage → Situation
work_doing e (work_stage.Answer end) = Idle (second_rest e.next)
work_doing e stage = Working (record e { stage = stage })

-- what it is answered then
abbrev pub work_says : PlainWorkCall → WorkStage → List Response
work_says e (work_stage.Answer end) = Worked (record e { stage = work_stage.Answer end }) end ∷ []
work_says e stage = []

-- whether the place that the access names is one of the sheet
abbrev pub names_place : Layout → Access Place → Bool
names_place layout Nothing = true
names_place layout (Load r) = is_place layout r
names_place layout (Store r value) = is_place layout r
names_place layout (Or r bits) = is_place layout r
names_place layout (SwapIf r expected value) = is_place layout r
names_place layout (Flush r) = is_place layout r
names_place layout Back = true

-- the access by the number of its word, and none where the sheet has no such place: a work goes where words point, and
-- those of a sound sheet point into it
abbrev pub access_in : Layout → Access Place → Access ℕ
access_in layout access = if names_place layout access then access_at layout access else Nothing

-- the work is one of the sheet
pub record IsWorkOn (layout : Layout) (e : PlainWorkCall) : Type 0 where
  pub is : IsWork e
  pub cells : cells_of layout ≡ e.cells
  pub processes : layout.processes ≡ e.processes

-- an idle process may begin a work at its first stage; one whose work is to read goes on with what it has read, or
-- without it where memory was refused; one whose work waits, with the entry that its content gives on its inputs
pub data MayWork (layout : Layout) (now : Situation) (e : PlainWorkCall) : Type 0 where
  asked : now ≡ Idle (second_rest e.next) → IsAskedFor layout e.process (second_rest e.next) e.cell e → MayWork layout now e
  read : (f : PlainWorkCall) → now ≡ Working f → IsWork f → f.stage ≡ work_stage.Read → IsReading layout.shape f e → MayWork layout now e
  offered : (f : PlainWorkCall) → now ≡ Working f → IsWork f → f.stage ≡ work_stage.Wait → e ≡ work_steps.offered f (local layout.shape f.content (entry_in f.inputs)) → MayWork layout now e

-- works, as calls of the structure: each step by the stage of the work, to its answer, or to where it reads its content or
-- waits for its entry, which touch no word
abbrev pub works : Calls SheetKey Situation Response PlainWorkCall WorkPause
works = record {
  process = λ e. e.process;
  begins = λ key now e. MayWork key.layout now e;
  doing = λ e. work_doing e e.stage;
  says = λ e. work_says e e.stage;
  access = λ key e. access_in key.layout (work_steps.access_at key.layout.shape e e.stage);
  next = λ e word. work_steps.next_at e e.stage word;
  goes = λ e. WorkGoes e.stage;
  ends = λ e end. WorkEnds e.stage end;
  fits = λ key e. IsWorkOn key.layout e;
  rank = λ e. steps_left e.cells e;
}

-- ---- shows

-- a step is left
abbrev pub ShowGoes : ShowStage → Type 0
ShowGoes (show_stage.Answer end) = ⊥
ShowGoes _ = Unit {0}

-- the process at a stage of its show
abbrev pub show_doing : PlainShowCall → ShowStage → Situation
show_doing e (show_stage.Answer end) = Idle (second_rest e.next)
show_doing e stage = Showing (record e { stage = stage })

-- what it is answered then
abbrev pub show_says : PlainShowCall → ShowStage → List Response
show_says e (show_stage.Answer end) = Shown (record e { stage = show_stage.Answer end }) end ∷ []
show_says e stage = []

-- the show is one of the sheet
pub record IsShowOn (layout : Layout) (e : PlainShowCall) : Type 0 where
  pub is : IsShow e
  pub cells : cells_of layout ≡ e.cells
  pub processes : layout.processes ≡ e.processes

-- an idle process may begin a show at its first stage
pub record MayShow (layout : Layout) (now : Situation) (e : PlainShowCall) : Type 0 where
  pub idle : now ≡ Idle (second_rest e.next)
  pub fresh : e ≡ show_steps.fresh e.process (second_rest e.next) (cells_of layout) layout.processes

-- shows, as calls of the structure: each step by the stage of the show, to its answer
abbrev pub shows : Calls SheetKey Situation Response PlainShowCall ShowEnd
shows = record {
  process = λ e. e.process;
  begins = λ key now e. MayShow key.layout now e;
  doing = λ e. show_doing e e.stage;
  says = λ e. show_says e e.stage;
  access = λ key e. access_at key.layout (show_steps.access_at e.stage);
  next = show_steps.got_at;
  goes = λ e. ShowGoes e.stage;
  ends = λ e end. e.stage ≡ show_stage.Answer end;
  fits = λ key e. IsShowOn key.layout e;
  rank = show_steps.rank;
}

-- ---- recoveries

-- a step is left
abbrev pub RecoveryGoes : RecoverStage → Type 0
RecoveryGoes (recover_stage.Answer how) = ⊥
RecoveryGoes _ = Unit {0}

-- the recovery has ended so
abbrev pub RecoveryEnds : PlainRecoverCall → RecoveryEnd → Type 0
RecoveryEnds e end = (how : Option Bool) × (e.stage ≡ recover_stage.Answer how) × (end ≡ recovery_steps.end_of e how)

-- the process at a stage of its recovery
abbrev pub recovery_doing : PlainRecoverCall → RecoverStage → Situation
recovery_doing e (recover_stage.Answer how) = Idle (second_rest (next_number e.announcement how))
recovery_doing e stage = Recovering (record e { stage = stage })

-- what it is answered then
abbrev pub recovery_says : PlainRecoverCall → RecoverStage → List Response
recovery_says e (recover_stage.Answer how) = Recovered (record e { stage = recover_stage.Answer how }) (recovery_steps.end_of e how) ∷ []
recovery_says e stage = []

-- the recovery is one of the sheet
pub record IsRecoveryOn (layout : Layout) (e : PlainRecoverCall) : Type 0 where
  pub is : IsRecovery e
  pub cells : cells_of layout ≡ e.cells
  pub processes : layout.processes ≡ e.processes

-- a process in no call may begin a recovery at its first stage
pub record MayBeginRecovery (layout : Layout) (now : Situation) (e : PlainRecoverCall) : Type 0 where
  pub free : MayRecover now
  pub fresh : e ≡ recovery_steps.fresh e.process (cells_of layout) layout.processes

-- recoveries, as calls of the structure: each step by the stage of the recovery, to its answer
abbrev pub recoveries : Calls SheetKey Situation Response PlainRecoverCall RecoveryEnd
recoveries = record {
  process = λ e. e.process;
  begins = λ key now e. MayBeginRecovery key.layout now e;
  doing = λ e. recovery_doing e e.stage;
  says = λ e. recovery_says e e.stage;
  access = λ key e. access_at key.layout (recovery_steps.access_at e e.stage);
  next = recovery_steps.got_at;
  goes = λ e. RecoveryGoes e.stage;
  ends = RecoveryEnds;
  fits = λ key e. IsRecoveryOn key.layout e;
  rank = λ e. recovery_steps.rank e.cells e.stage;
}
