-- The kinds of calls, and a step of each.
use Rattle.std.specs.Prelude.{ℕ, Option, Some, None}
use Rattle.ds_state.specs.Value.{WorldValue, world_of}
use Rattle.ds_state.specs.declared.answer.Answer.{Answer}
use Rattle.ds_state.specs.declared.answer.Answer.TheVariants.{Edit, Work, Show, Recovery, Migration}
use Rattle.ds_state.specs.declared.answer.EditEnd.{EditEnd}
use Rattle.ds_state.specs.declared.work.WorkEnd.{WorkEnd}
use Rattle.ds_state.specs.declared.show.ShowEnd.{ShowEnd}
use Rattle.ds_state.specs.declared.recovery.RecoveryEnd.{RecoveryEnd}
use Rattle.ds_state.specs.declared.migration.MigrateEnd.{MigrateEnd}
use Rattle.ds_state.specs.declared.turn.Turn.{Turn}
use Rattle.ds_state.specs.declared.turn.Turn.TheVariants.{GoesOn, Answers}
use Rattle.ds_state.specs.declared.situation.Situation.{Situation}
use Rattle.ds_core.specs.Kinds.{IsEditAnswer, IsWorkAnswer, IsShowAnswer, IsRecoveryAnswer, IsMigrationAnswer, AnswersTo}
use Rattle.ds_core.specs.Own.{IsInCall}
use Rattle.ds_core.specs.Replies.{reply_of}
use Rattle.ds_core.specs.StepEvents.{Rests, StepsBy}

-- the calls of one kind: the answer of each of their ends, and which answers are theirs
pub record Kind (E : Type 0) : Type 1 where
  pub answer : E → Answer
  pub is : Answer → Type 0

-- edits
abbrev pub edits : Kind EditEnd
edits = record { answer = Edit; is = IsEditAnswer }

-- works
abbrev pub works : Kind WorkEnd
works = record { answer = Work; is = IsWorkAnswer }

-- the call shows the sheet
abbrev pub reports : Kind ShowEnd
reports = record { answer = Show; is = IsShowAnswer }

-- recoveries
abbrev pub recoveries : Kind RecoveryEnd
recoveries = record { answer = Recovery; is = IsRecoveryAnswer }

-- migrations
abbrev pub migrations : Kind MigrateEnd
migrations = record { answer = Migration; is = IsMigrationAnswer }

-- calls of any kind
abbrev pub all : Kind Answer
all = record { answer = λ answer. answer; is = λ answer. Unit {0} }

-- the process is in a call whose answers are of this kind
abbrev pub IsCallOf : (Answer → Type 0) → Situation → Type 0
IsCallOf kind s = IsInCall s × ((answer : Answer) → AnswersTo s answer → kind answer)

-- what a step did to a call of one kind, among calls of any kind
abbrev pub all_of : {E : Type 0} → (E → Answer) → Option (Turn E) → Option (Turn Answer)
all_of answer None = None
all_of answer (Some GoesOn) = Some GoesOn
all_of answer (Some (Answers end)) = Some (Answers (answer end))

-- the process, if it is in a call, is in one of this kind
abbrev pub IsOnlyIn : {E : Type 0} → Kind E → WorldValue → ℕ → Type 0
IsOnlyIn kind v p = (answer : Answer) → AnswersTo ((world_of v).situation p) answer → kind.is answer

-- the process makes one step of a call, with what that did to it; or it can make none of a call of this kind, and the
-- world stays
abbrev pub StepsAs : {E : Type 0} → Kind E → WorldValue → ℕ → Option (Turn E) → WorldValue → Type 0
StepsAs kind old p None new = Rests (IsCallOf kind.is) old p new
StepsAs kind old p (Some turn) new = StepsBy old p (reply_of kind.answer turn) new
