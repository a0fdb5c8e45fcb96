-- What a step of a recovery makes of a world, with what the world counts and keeps.
use Rattle.std.specs.Prelude.{ℕ, ◌≡◌, ◌<◌, Option, Some, None}
use Rattle.ds_state.specs.declared.turn.Turn.{Turn}
use Rattle.ds_state.specs.declared.recovery.RecoveryEnd.{RecoveryEnd}
use Rattle.ds_state.specs.Works.{PlainRecoverCall}
use Rattle.ds_state.specs.World.{PlainIssue}
use Rattle.ds_state.specs.Value.{WorldValue, world_of}
use Rattle.ds_state.specs.declared.situation.Situation.TheVariants.{Recovering}
use Rattle.ds_state.specs.declared.turn.Turn.TheVariants.{GoesOn, Answers}
use Rattle.ds_recover.specs.RecoverySteps.{Steps, effect_at}

-- the process's issue after a step of its recovery: the answer resolves the edit in doubt
abbrev pub open_edit_by : Option PlainIssue → Turn RecoveryEnd → Option PlainIssue
open_edit_by issue (Answers end) = None
open_edit_by issue GoesOn = issue

-- the process makes a step of its recovery
pub record StepsBy (old : WorldValue) (p : ℕ) (what : Turn RecoveryEnd) (new : WorldValue) : Type 0 where
  pub there : p < old.sheet.layout.processes
  pub recovery : PlainRecoverCall
  pub mine : recovery.process ≡ p
  pub at : (world_of old).situation p ≡ Recovering recovery
  pub word : ℕ
  pub steps : Steps recovery word (world_of old) (world_of new)
  pub is : what ≡ effect_at recovery recovery.stage
  pub done : new.done ≡ old.done
  pub settled : new.settled ≡ old.settled
  pub reports : new.reports ≡ old.reports

-- the process has no recovery under way, or the sheet has no such process
pub record CanNotStep (old : WorldValue) (p : ℕ) (new : WorldValue) : Type 0 where
  pub same : new ≡ old
  pub none : (recovery : PlainRecoverCall) → p < old.sheet.layout.processes → (world_of old).situation p ≡ Recovering recovery → ⊥

-- the process makes a step of its recovery; or it can make none, and the world stays
abbrev pub StepTakes : WorldValue → ℕ → Option (Turn RecoveryEnd) → WorldValue → Type 0
StepTakes old p None new = CanNotStep old p new
StepTakes old p (Some what) new = StepsBy old p what new
