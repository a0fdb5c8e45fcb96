-- Which answers the calls of each kind have.
use Rattle.std.specs.Prelude.{◌≡◌}
use Rattle.ds_state.specs.declared.answer.Answer.{Answer}
use Rattle.ds_state.specs.declared.answer.Answer.TheVariants.{Edit, Work, Show, Recovery, Migration}
use Rattle.ds_state.specs.declared.situation.Rest.{Rest}
use Rattle.ds_state.specs.declared.situation.Situation.{Situation}
use Rattle.ds_state.specs.declared.situation.Situation.TheVariants.{Idle, Stopped, Editing, Working, Recovering, Showing, Migrating}

-- the answer is one of an edit
abbrev pub IsEditAnswer : Answer → Type 0
IsEditAnswer (Edit end) = Unit {0}
IsEditAnswer answer = ⊥

-- the answer is one of work
abbrev pub IsWorkAnswer : Answer → Type 0
IsWorkAnswer (Work end) = Unit {0}
IsWorkAnswer answer = ⊥

-- the answer is one of a show
abbrev pub IsShowAnswer : Answer → Type 0
IsShowAnswer (Show end) = Unit {0}
IsShowAnswer answer = ⊥

-- the answer is one of a recovery
abbrev pub IsRecoveryAnswer : Answer → Type 0
IsRecoveryAnswer (Recovery end) = Unit {0}
IsRecoveryAnswer answer = ⊥

-- the answer is one of a migration
abbrev pub IsMigrationAnswer : Answer → Type 0
IsMigrationAnswer (Migration end) = Unit {0}
IsMigrationAnswer answer = ⊥

-- the answer is one of the call of this situation
abbrev pub AnswersTo : Situation → Answer → Type 0
AnswersTo (Idle number) = λ answer. ⊥
AnswersTo Stopped = λ answer. ⊥
AnswersTo (Editing e) = IsEditAnswer
AnswersTo (Working e) = IsWorkAnswer
AnswersTo (Recovering e) = IsRecoveryAnswer
AnswersTo (Showing e) = IsShowAnswer
AnswersTo (Migrating e) = IsMigrationAnswer

-- how the process rests that is answered so: after a migration it is stopped, after any other call idle
abbrev pub RestsAs : Answer → Situation → Type 0
RestsAs (Migration end) s = s ≡ Stopped
RestsAs answer s = (next : Rest) × (s ≡ Idle next)
