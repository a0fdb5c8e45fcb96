-- The beginning of a migration and its steps, from world to world.
use Rattle.std.specs.Prelude.{ℕ, ◌≡◌, ◌<◌}
use Rattle.ds_state.specs.declared.turn.Turn.{Turn}
use Rattle.ds_state.specs.Value.{WorldValue, world_of, SameReports}
use Rattle.ds_state.specs.declared.refusal.Refusal.{Refusal}
use Rattle.ds_state.specs.declared.migration.MigrateEnd.{MigrateEnd}
use Rattle.ds_state.specs.declared.answer.Answer.TheVariants.{Migration}
use Rattle.ds_core.specs.Replies.{reply_of}
use Rattle.ds_recover.specs.MigrationSteps.{BeginsMigration}
use Rattle.ds_recover.specs.MigrationTakes as migrations
use Rattle.ds_core.specs.ShowEvents.{NoSuchProcess}
use Rattle.ds_core.specs.declared.reply.Reply.{Reply}
use Rattle.ds_core.specs.declared.reply.Reply.TheVariants.{Entered, Refused, NotEnabled}

-- the reply to a step of a migration: Stepped, or its answer
abbrev pub migration_reply : Turn MigrateEnd → Reply
migration_reply what = reply_of Migration what

-- the process makes one step of its migration, with the reply of that step
pub record MigrationStepsBy (old : WorldValue) (p : ℕ) (reply : Reply) (new : WorldValue) : Type 0 where
  pub what : Turn MigrateEnd
  pub steps : migrations.StepsBy old p what new
  pub is : reply ≡ migration_reply what

-- a migration by a process of the sheet begins; counts and kept snapshots stay
pub record MigrationBegins (old : WorldValue) (p : ℕ) (new : WorldValue) : Type 0 where
  pub there : p < old.sheet.layout.processes
  pub begun : BeginsMigration p (world_of old) (world_of new)
  pub done : new.done ≡ old.done
  pub reports : SameReports old new

-- the begin of a migration is refused for a cause that holds; the world stays
pub record MigrationRefused (old : WorldValue) (p : ℕ) (why : Refusal) (new : WorldValue) : Type 0 where
  pub there : p < old.sheet.layout.processes
  pub holds : migrations.Refuses (world_of old) p why
  pub same : new ≡ old

-- what the begin of a migration does, by its reply
abbrev pub BeginMigrateTakes : WorldValue → ℕ → Reply → WorldValue → Type 0
BeginMigrateTakes old p Entered new = MigrationBegins old p new
BeginMigrateTakes old p (Refused why) new = MigrationRefused old p why new
BeginMigrateTakes old p NotEnabled new = NoSuchProcess old p new
BeginMigrateTakes old p _ new = ⊥
