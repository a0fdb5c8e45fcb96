-- The beginning of a recovery and its steps, from world to world.
use Rattle.std.specs.Prelude.{ℕ, ◌≡◌, ◌<◌}
use Rattle.ds_state.specs.declared.turn.Turn.{Turn}
use Rattle.ds_state.specs.Value.{WorldValue, world_of, SameReports}
use Rattle.ds_state.specs.declared.refusal.Refusal.{Refusal}
use Rattle.ds_state.specs.declared.answer.Answer.TheVariants.{Recovery}
use Rattle.ds_core.specs.Replies.{reply_of}
use Rattle.ds_state.specs.declared.recovery.RecoveryEnd.{RecoveryEnd}
use Rattle.ds_recover.specs.RecoverBegun.{IsBegun, Refuses}
use Rattle.ds_recover.specs.RecoverTakes as recoveries
use Rattle.ds_core.specs.ShowEvents.{NoSuchProcess}
use Rattle.ds_core.specs.declared.reply.Reply.{Reply}
use Rattle.ds_core.specs.declared.reply.Reply.TheVariants.{Entered, Refused, NotEnabled}

-- the reply to a step of a recovery: Stepped, or its answer
abbrev pub recovery_reply : Turn RecoveryEnd → Reply
recovery_reply what = reply_of Recovery what

-- the process makes one step of its recovery, with the reply of that step
pub record RecoveryStepsBy (old : WorldValue) (p : ℕ) (reply : Reply) (new : WorldValue) : Type 0 where
  pub what : Turn RecoveryEnd
  pub steps : recoveries.StepsBy old p what new
  pub is : reply ≡ recovery_reply what

-- a recovery of a process of the sheet begins; counts and kept snapshots stay
pub record RecoveryBegins (old : WorldValue) (p : ℕ) (new : WorldValue) : Type 0 where
  pub there : p < old.sheet.layout.processes
  pub begun : IsBegun (world_of old) p (world_of new)
  pub done : new.done ≡ old.done
  pub reports : SameReports old new

-- the begin of a recovery is refused for a cause that holds; the world stays
pub record RecoveryRefused (old : WorldValue) (p : ℕ) (why : Refusal) (new : WorldValue) : Type 0 where
  pub there : p < old.sheet.layout.processes
  pub holds : Refuses (world_of old) p why
  pub same : new ≡ old

-- what the begin of a recovery does, by its reply
abbrev pub BeginRecoverTakes : WorldValue → ℕ → Reply → WorldValue → Type 0
BeginRecoverTakes old p Entered new = RecoveryBegins old p new
BeginRecoverTakes old p (Refused why) new = RecoveryRefused old p why new
BeginRecoverTakes old p NotEnabled new = NoSuchProcess old p new
BeginRecoverTakes old p _ new = ⊥
