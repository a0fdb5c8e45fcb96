-- The events of edits, from world to world.
use Rattle.std.specs.Prelude.{ℕ, ◌≡◌, ◌≢◌, ◌<◌, ◌+◌, ◌++◌, if◌then◌else◌, List, [], ◌∷◌, length, Option, Some, None}
use Rattle.ds_words.specs.Memory.{SameMemory}
use Rattle.ds_layout.specs.SheetMemory.{PerformsAt}
use Rattle.ds_state.specs.Edits.{PlainEditCall}
use Rattle.ds_state.specs.World.{PlainEdit, edit_of, PlainIssue, PlainWorld}
use Rattle.ds_state.specs.Value.{WorldValue, world_of, SameReports}
use Rattle.ds_state.specs.EditEndings.{end_of, outcome_at}
use Rattle.ds_state.specs.declared.stage.Stage.{Stage}
use Rattle.ds_state.specs.declared.stage.Stage.TheVariants.{StoreHeader, Swap, Answer}
use Rattle.ds_state.specs.declared.situation.Situation.{Situation}
use Rattle.ds_state.specs.declared.situation.Situation.TheVariants.{Idle, Editing}
use Rattle.ds_state.specs.declared.stage.Outcome.{Outcome}
use Rattle.ds_state.specs.declared.stage.Outcome.TheVariants as outcome
use Rattle.ds_state.specs.declared.answer.EditEnd.{EditEnd}
use Rattle.ds_state.specs.declared.turn.Turn.{Turn}
use Rattle.ds_state.specs.declared.turn.Turn.TheVariants as does
use Rattle.ds_edit.specs.EditSteps.{access_at, got_at, next_at, wins}
use Rattle.ds_edit.specs.declared.machine.Effect.{Effect}
use Rattle.ds_edit.specs.declared.machine.Effect.TheVariants.{GoesOn, Counts, Answers}
use Rattle.ds_state.specs.declared.situation.Rest.{Rest}

-- what the process knows before its edit: the edit's number, and the layout
abbrev pub rest_before : PlainEditCall → Rest
rest_before e = record { number = e.number; edition = e.edition }

-- what it knows after it: the next number
abbrev pub rest_behind : PlainEditCall → Rest
rest_behind e = record { number = e.number + 1; edition = e.edition }

-- what the process does after the step: its answer ends the edit
abbrev pub after : PlainEditCall → Stage → ℕ → Situation
after e (Answer how) word = Idle (rest_behind e)
after e stage word = Editing (record e { stage = next_at e stage word })

-- what is linearized by the step: the edit, where its swap finds the head that it noted
abbrev pub counted_at : PlainEdit → Stage → ℕ → List PlainEdit
counted_at e (Swap noted) word = if wins noted word then e ∷ [] else []
counted_at e stage word = []

-- the process's issue after a step at this stage: none after the answer
abbrev pub open_edit_at : Option PlainIssue → Stage → Option PlainIssue
open_edit_at issue (Answer how) = None
open_edit_at issue stage = issue

-- what a step at this stage does, whose access answered the word: the edit is linearized where its swap wins
abbrev pub effect_at : Stage → ℕ → Effect
effect_at (Swap noted) word = if wins noted word then Counts else GoesOn
effect_at (Answer how) word = Answers how
effect_at stage word = GoesOn

-- what the process does after a step of this effect, whose access answered the word
abbrev pub after_by : PlainEditCall → ℕ → Effect → Situation
after_by e word GoesOn = Editing (got_at e word)
after_by e word Counts = Editing (got_at e word)
after_by e word (Answers how) = Idle (rest_behind e)

-- what is linearized by a step of this effect
abbrev pub counted_by : PlainEdit → Effect → List PlainEdit
counted_by e GoesOn = []
counted_by e Counts = e ∷ []
counted_by e (Answers how) = []

-- the process's issue after a step of this effect
abbrev pub open_edit_by : Option PlainIssue → Effect → Option PlainIssue
open_edit_by issue GoesOn = issue
open_edit_by issue Counts = issue
open_edit_by issue (Answers how) = None

-- how the edit ended, by the effect of its last step
abbrev pub outcome_by : Effect → Option Outcome
outcome_by GoesOn = None
outcome_by Counts = None
outcome_by (Answers how) = Some how

-- one step of the edit at a stage, whose access answered the word
pub record StepsAt (e : PlainEditCall) (stage : Stage) (word : ℕ) (old new : PlainWorld) : Type 0 where
  pub layout : new.layout ≡ old.layout
  pub memory : PerformsAt (access_at e stage) e.process old.memory new.memory word
  pub situation : new.situation e.process ≡ after e stage word
  pub others : (q : ℕ) → q ≢ e.process → new.situation q ≡ old.situation q
  pub counted : new.counted ≡ old.counted ++ counted_at (edit_of e) stage word
  pub open_edits : new.open_edits e.process ≡ open_edit_at (old.open_edits e.process) stage
  pub others_open_edits : (q : ℕ) → q ≢ e.process → new.open_edits q ≡ old.open_edits q

-- one step of the edit at its own stage, whose access answered the word
abbrev pub Steps : PlainEditCall → ℕ → PlainWorld → PlainWorld → Type 0
Steps e word old new = StepsAt e e.stage word old new

-- an edit begins: it is issued, and no word changes
pub record Begins (e : PlainEditCall) (old new : PlainWorld) : Type 0 where
  pub layout : new.layout ≡ old.layout
  pub memory : SameMemory old.memory new.memory
  pub idle : old.situation e.process ≡ Idle (rest_before e)
  pub first : e.stage ≡ StoreHeader
  pub situation : new.situation e.process ≡ Editing e
  pub others : (q : ℕ) → q ≢ e.process → new.situation q ≡ old.situation q
  pub counted : new.counted ≡ old.counted
  pub open_edits : new.open_edits e.process ≡ Some (record { edit = edit_of e; since = length old.counted })
  pub others_open_edits : (q : ℕ) → q ≢ e.process → new.open_edits q ≡ old.open_edits q

-- ---- a step, with what the world counts

-- what a step does to the edit with this number: it ends where it has an outcome, else it goes on
abbrev pub turn_with : ℕ → ℕ → Option Outcome → Turn EditEnd
turn_with processes number None = does.GoesOn
turn_with processes number (Some how) = does.Answers (end_of processes number how)

-- what the step of an edit at this stage does to it
abbrev pub turn_at : ℕ → ℕ → Stage → Turn EditEnd
turn_at processes number s = turn_with processes number (outcome_at s)

-- what a step of this effect does to the edit with this number
abbrev pub turn_by : ℕ → ℕ → Effect → Turn EditEnd
turn_by processes number what = turn_with processes number (outcome_by what)

-- how many edits have been answered Done after a step of an edit: one more where its outcome is Done
abbrev pub done_with : ℕ → Option Outcome → ℕ
done_with done (Some outcome.Done) = done + 1
done_with done _ = done

-- how many edits have been answered Done after the step of an edit at this stage
abbrev pub done_at : ℕ → Stage → ℕ
done_at done s = done_with done (outcome_at s)

-- how many edits have been answered Done after a step of this effect
abbrev pub done_by : ℕ → Effect → ℕ
done_by done what = done_with done (outcome_by what)

-- the process is one of the sheet, and is in this edit
pub record IsEditing (v : WorldValue) (p : ℕ) (e : PlainEditCall) : Type 0 where
  pub there : p < length v.situations
  pub is : (world_of v).situation p ≡ Editing e

-- the process makes a step of its edit
pub record StepsBy (old : WorldValue) (p : ℕ) (what : Turn EditEnd) (new : WorldValue) : Type 0 where
  pub there : p < old.sheet.layout.processes
  pub edit : PlainEditCall
  pub mine : edit.process ≡ p
  pub at : (world_of old).situation p ≡ Editing edit
  pub word : ℕ
  pub steps : Steps edit word (world_of old) (world_of new)
  pub is : what ≡ turn_at old.sheet.layout.processes edit.number edit.stage
  pub done : new.done ≡ done_at old.done edit.stage
  pub reports : SameReports old new

-- the process has no edit under way, or the sheet has no such process; the world stays
pub record CanNotStep (old : WorldValue) (p : ℕ) (new : WorldValue) : Type 0 where
  pub same : new ≡ old
  pub none : (edit : PlainEditCall) → p < old.sheet.layout.processes → (world_of old).situation p ≡ Editing edit → ⊥

-- the process makes a step of its edit; or it can make none, and the world stays
abbrev pub StepTakes : WorldValue → ℕ → Option (Turn EditEnd) → WorldValue → Type 0
StepTakes old p None new = CanNotStep old p new
StepTakes old p (Some what) new = StepsBy old p what new
