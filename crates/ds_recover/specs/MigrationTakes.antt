-- What a step of a migration, and its beginning, make of a world, with what the world counts and keeps.
use Rattle.std.specs.Prelude.{ℕ, ◌≡◌, ◌≢◌, ◌<◌, Option, Some, None}
use Rattle.ds_state.specs.declared.turn.Turn.{Turn}
use Rattle.ds_state.specs.declared.migration.MigrateEnd.{MigrateEnd}
use Rattle.ds_state.specs.Works.{PlainMigrateCall}
use Rattle.ds_state.specs.World.{PlainWorld}
use Rattle.ds_state.specs.Value.{WorldValue, world_of}
use Rattle.ds_state.specs.declared.refusal.Refusal.{Refusal}
use Rattle.ds_state.specs.declared.refusal.Refusal.TheVariants as refusal
use Rattle.ds_state.specs.declared.migration.MigrateStage.{MigrateStage}
use Rattle.ds_state.specs.declared.migration.MigrateStage.TheVariants.{Answer}
use Rattle.ds_state.specs.declared.situation.Situation.TheVariants.{Stopped, Migrating}
use Rattle.ds_recover.specs.RecoverBegun.{MayRecover}
use Rattle.ds_recover.specs.MigrationSteps.{StepsAt, next_at}
use Rattle.ds_state.specs.declared.turn.Turn.TheVariants.{GoesOn, Answers}

-- what a step at a stage does to the migration: it goes on, or it answers
abbrev pub effect_at : MigrateStage → Turn MigrateEnd
effect_at (Answer how) = Answers how
effect_at _ = GoesOn

-- the migration after its own stage, whose access answered the word
abbrev pub got_at : PlainMigrateCall → ℕ → PlainMigrateCall
got_at e word = next_at e e.stage word

-- the process makes a step of its migration
pub record StepsBy (old : WorldValue) (p : ℕ) (what : Turn MigrateEnd) (new : WorldValue) : Type 0 where
  pub there : p < old.sheet.layout.processes
  pub migration : PlainMigrateCall
  pub mine : migration.process ≡ p
  pub at : (world_of old).situation p ≡ Migrating migration
  pub word : ℕ
  pub steps : StepsAt migration migration.stage word (world_of old) (world_of new)
  pub is : what ≡ effect_at migration.stage
  pub done : new.done ≡ old.done
  pub settled : new.settled ≡ old.settled
  pub reports : new.reports ≡ old.reports

-- the process has no migration under way, or the sheet has no such process
pub record CanNotStep (old : WorldValue) (p : ℕ) (new : WorldValue) : Type 0 where
  pub same : new ≡ old
  pub none : (migration : PlainMigrateCall) → p < old.sheet.layout.processes → (world_of old).situation p ≡ Migrating migration → ⊥

-- the process makes a step of its migration; or it can make none, and the world stays
abbrev pub StepTakes : WorldValue → ℕ → Option (Turn MigrateEnd) → WorldValue → Type 0
StepTakes old p None new = CanNotStep old p new
StepTakes old p (Some what) new = StepsBy old p what new

-- the first process of the sheet that is not stopped
pub record IsFirstRunning (w : PlainWorld) (q : ℕ) : Type 0 where
  pub there : q < w.layout.processes
  pub runs : w.situation q ≢ Stopped
  pub first : (r : ℕ) → r < q → w.situation r ≡ Stopped

-- why a process may not migrate the sheet: it is in a call; or it is in none, and not all processes are stopped
abbrev pub Refuses : PlainWorld → ℕ → Refusal → Type 0
Refuses old p refusal.Busy = MayRecover (old.situation p) → ⊥
Refuses old p (refusal.NotStopped q) = MayRecover (old.situation p) × IsFirstRunning old q
Refuses old p why = ⊥

-- each process of the sheet is stopped
abbrev pub AllStopped : PlainWorld → Type 0
AllStopped w = (q : ℕ) → q < w.layout.processes → w.situation q ≡ Stopped
