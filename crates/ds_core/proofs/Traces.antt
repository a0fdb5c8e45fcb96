-- What an event of an edit does to the world's own list of linearized edits, and to its issues.
use Rattle.std.specs.Prelude.{ℕ, ◌≡◌, ◌≢◌, ◌⊎◌, ◌++◌, [], ◌∷◌, length, drop, Some, None, Contains}
use Rattle.ds_state.specs.World.{PlainEdit, PlainIssue, PlainWorld}
use Rattle.ds_state.specs.declared.answer.Other.{Other}
use Rattle.ds_state.specs.declared.answer.Answer.TheVariants.{Edit}
use Rattle.ds_state.specs.declared.answer.EditEnd.TheVariants.{Done, Overtaken}
use Rattle.ds_core.specs.declared.reply.Reply.{Reply}
use Rattle.ds_core.specs.declared.reply.Reply.TheVariants.{Stepped, Answered}

-- nothing
pub record Stays (old new : PlainWorld) : Type 0 where
  pub counted : new.counted ≡ old.counted
  pub open_edits : (q : ℕ) → new.open_edits q ≡ old.open_edits q

-- the process, which had none, has an edit that is not answered; it is not linearized yet
pub record Issues (old : PlainWorld) (edit : PlainEdit) (new : PlainWorld) : Type 0 where
  pub none : old.open_edits edit.process ≡ None
  pub issued : new.open_edits edit.process ≡ Some (record { edit = edit; since = length old.counted })
  pub others : (q : ℕ) → q ≢ edit.process → new.open_edits q ≡ old.open_edits q
  pub fresh : Contains old.counted edit → ⊥
  pub counted : new.counted ≡ old.counted

-- the process's edit, which was not linearized, is linearized
pub record Counts (old : PlainWorld) (p : ℕ) (new : PlainWorld) : Type 0 where
  pub issue : PlainIssue
  pub open_is : old.open_edits p ≡ Some issue
  pub mine : issue.edit.process ≡ p
  pub not_yet : Contains old.counted issue.edit → ⊥
  pub counted : new.counted ≡ old.counted ++ issue.edit ∷ []
  pub open_edits : (q : ℕ) → new.open_edits q ≡ old.open_edits q

-- the process's edit of this number is answered
pub record Closes (old : PlainWorld) (p number : ℕ) (Is : PlainIssue → Type 0) (new : PlainWorld) : Type 0 where
  pub issue : PlainIssue
  pub open_is : old.open_edits p ≡ Some issue
  pub number_is : issue.edit.number ≡ number
  pub is : Is issue
  pub closed : new.open_edits p ≡ None
  pub others : (q : ℕ) → q ≢ p → new.open_edits q ≡ old.open_edits q
  pub counted : new.counted ≡ old.counted

-- the other edit is of the same cell, and was linearized since the issue; this one is not linearized
pub record IsOvertakenBy (w : PlainWorld) (other : Other) (issue : PlainIssue) : Type 0 where
  pub out : Contains w.counted issue.edit → ⊥
  pub by : PlainEdit
  pub since : Contains (drop issue.since w.counted) by
  pub cell : by.cell ≡ issue.edit.cell
  pub process : by.process ≡ other.process
  pub number : by.number ≡ other.number

-- a step of an edit, by its answer
abbrev pub StepMoves : PlainWorld → ℕ → Reply → PlainWorld → Type 0
StepMoves old p Stepped new = Stays old new ⊎ Counts old p new
StepMoves old p (Answered (Edit (Done number))) new = Closes old p number (λ issue. Contains old.counted issue.edit) new
StepMoves old p (Answered (Edit (Overtaken number other))) new = Closes old p number (IsOvertakenBy old other) new
StepMoves old p reply new = Stays old new
