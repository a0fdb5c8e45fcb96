-- The points of calls: what each call has passed, in the order of its steps.
use Rattle.std.specs.Prelude.{ℕ, Bool, false, nat_le, Option, Some, None, option_map}
use Rattle.ds_state.specs.declared.stage.Stage.{Stage}
use Rattle.ds_state.specs.declared.stage.Stage.TheVariants as edit
use Rattle.ds_state.specs.declared.work.WorkEnd.{WorkEnd}
use Rattle.ds_state.specs.declared.work.WorkEnd.TheVariants as ends
use Rattle.ds_state.specs.declared.work.WorkStage.{WorkStage}
use Rattle.ds_state.specs.declared.work.WorkStage.TheVariants as work
use Rattle.ds_state.specs.declared.recovery.RecoverStage.{RecoverStage}
use Rattle.ds_state.specs.declared.recovery.RecoverStage.TheVariants as recovery
use Rattle.ds_state.specs.declared.migration.MigrateStage.{MigrateStage}
use Rattle.ds_state.specs.declared.migration.MigrateStage.TheVariants as migration
use Rattle.ds_state.specs.declared.migration.MigrateEnd.TheVariants as migrate_ends
use Rattle.ds_state.specs.declared.situation.Situation.{Situation}
use Rattle.ds_state.specs.declared.situation.Situation.TheVariants.{Idle, Stopped, Editing, Working, Recovering, Showing, Migrating}
use Rattle.ds_state.specs.declared.point.EditPoint.{EditPoint}
use Rattle.ds_state.specs.declared.point.EditPoint.TheVariants as edits
use Rattle.ds_state.specs.declared.point.WorkPoint.{WorkPoint}
use Rattle.ds_state.specs.declared.point.WorkPoint.TheVariants as works
use Rattle.ds_state.specs.declared.point.RecoveryPoint.{RecoveryPoint}
use Rattle.ds_state.specs.declared.point.RecoveryPoint.TheVariants as recoveries
use Rattle.ds_state.specs.declared.point.MigrationPoint.{MigrationPoint}
use Rattle.ds_state.specs.declared.point.MigrationPoint.TheVariants as migrations
use Rattle.ds_state.specs.declared.point.Point.{Point}
use Rattle.ds_state.specs.declared.point.Point.TheVariants.{Edit, Work, Recovery, Migration}

-- ---- their order

-- the place of a point among those of an edit, from 1
abbrev pub edit_place : EditPoint → ℕ
edit_place edits.Written = 1
edit_place edits.Announced = 2
edit_place edits.Indexed = 3
edit_place edits.Helped = 4
edit_place edits.Swung = 5
edit_place edits.Kept = 6
edit_place edits.Marked = 7
edit_place edits.Answered = 8

-- the place of a point among those of a work, from 1
abbrev pub work_place : WorkPoint → ℕ
work_place works.Held = 1
work_place works.Stored = 2
work_place works.Valued = 3
work_place works.Spread = 4
work_place works.Cleared = 5

-- the place of a point among those of a recovery, from 1
abbrev pub recovery_place : RecoveryPoint → ℕ
recovery_place recoveries.Freed = 1
recovery_place recoveries.Kept = 2
recovery_place recoveries.Marked = 3
recovery_place recoveries.Answered = 4

-- the place of a point among those of a migration, from 1
abbrev pub migration_place : MigrationPoint → ℕ
migration_place migrations.Copied = 1
migration_place migrations.Switched = 2

-- a call whose last point is the first one has passed the second one: of its kind, the same one or an earlier one
abbrev pub has_reached : Point → Point → Bool
has_reached (Edit last) (Edit wanted) = nat_le (edit_place wanted) (edit_place last)
has_reached (Work last) (Work wanted) = nat_le (work_place wanted) (work_place last)
has_reached (Recovery last) (Recovery wanted) = nat_le (recovery_place wanted) (recovery_place last)
has_reached (Migration last) (Migration wanted) = nat_le (migration_place wanted) (migration_place last)
has_reached last wanted = false

-- ---- the last point that a call has passed, by its stage

-- of an edit
abbrev pub edit_point : Stage → Option EditPoint
edit_point edit.StoreHeader = None
edit_point (edit.StoreText part) = None
edit_point edit.FlushHeader = None
edit_point (edit.FlushText part) = None
edit_point (edit.BackRecord left) = None
edit_point edit.StorePending = Some edits.Written
edit_point edit.FlushPending = Some edits.Written
edit_point edit.BackPending = Some edits.Written
edit_point (edit.OrIndex i) = Some edits.Announced
edit_point (edit.FlushIndex i) = Some edits.Announced
edit_point (edit.BackIndex i) = Some edits.Announced
edit_point edit.LoadHead = Some edits.Indexed
edit_point (edit.FlushNoted head) = Some edits.Indexed
edit_point (edit.BackNoted head) = Some edits.Indexed
edit_point (edit.OrDone head) = Some edits.Indexed
edit_point (edit.FlushDone head) = Some edits.Indexed
edit_point (edit.BackDone head) = Some edits.Indexed
edit_point (edit.Swap noted) = Some edits.Helped
edit_point (edit.FlushOwn own) = Some edits.Swung
edit_point (edit.BackOwn own) = Some edits.Swung
edit_point (edit.OrMark own) = Some edits.Kept
edit_point (edit.FlushMark own) = Some edits.Kept
edit_point (edit.BackMark own) = Some edits.Kept
edit_point (edit.StoreOutcome outcome) = Some edits.Marked
edit_point (edit.FlushOutcome outcome) = Some edits.Marked
edit_point (edit.BackOutcome outcome) = Some edits.Marked
edit_point (edit.Answer outcome) = Some edits.Answered

-- of a work that lets its cell go: it has marked the cells that refer to it, or memory was out
abbrev pub end_point : WorkEnd → Option WorkPoint
end_point (ends.Published changed) = Some works.Spread
end_point ends.Again = Some works.Spread
end_point ends.NoMemory = Some works.Held
end_point ends.NotDirty = None
end_point ends.Missed = None
end_point ends.Worn = None

-- of a work that has answered: without a claim none, without a value the claim
abbrev pub answer_point : WorkEnd → Option WorkPoint
answer_point (ends.Published changed) = Some works.Cleared
answer_point ends.Again = Some works.Cleared
answer_point ends.NoMemory = Some works.Held
answer_point ends.NotDirty = None
answer_point ends.Missed = None
answer_point ends.Worn = None

-- of a work
abbrev pub work_point : WorkStage → Option WorkPoint
work_point work.LoadMark = None
work_point work.Claim = None
work_point work.FlushClaim = None
work_point work.BackClaim = None
work_point work.LoadHead = Some works.Held
work_point work.LoadHeader = Some works.Held
work_point (work.LoadText part) = Some works.Held
work_point work.Read = Some works.Held
work_point (work.LoadValue i) = Some works.Held
work_point (work.LoadKind i value) = Some works.Held
work_point work.LoadOwnValue = Some works.Held
work_point work.LoadOwnKind = Some works.Held
work_point work.Wait = Some works.Held
work_point work.StoreValue = Some works.Held
work_point work.StoreKind = Some works.Held
work_point work.FlushValue = Some works.Stored
work_point work.FlushKind = Some works.Stored
work_point work.BackValue = Some works.Stored
work_point work.BackKind = Some works.Stored
work_point (work.Telling spread) = Some works.Valued
work_point (work.Clear changed) = Some works.Spread
work_point work.ClearDirty = Some works.Spread
work_point work.Give = Some works.Held
work_point work.GiveDirty = Some works.Held
work_point (work.FlushCleared end) = end_point end
work_point (work.BackCleared end) = end_point end
work_point (work.Answer end) = answer_point end

-- of a recovery that has answered: without an announcement, that its process holds no cell
abbrev pub recovered_point : Option Bool → Option RecoveryPoint
recovered_point None = Some recoveries.Freed
recovered_point (Some counts) = Some recoveries.Answered

-- of a recovery
abbrev pub recovery_point : RecoverStage → Option RecoveryPoint
recovery_point recovery.LoadVersion = None
recovery_point recovery.FlushVersion = None
recovery_point recovery.BackVersion = None
recovery_point (recovery.LoadMark cell) = None
recovery_point (recovery.FlushValue cell) = None
recovery_point (recovery.FlushKind cell) = None
recovery_point (recovery.BackValue cell) = None
recovery_point (recovery.BackKind cell) = None
recovery_point (recovery.Telling cell spread) = None
recovery_point (recovery.Give cell) = None
recovery_point (recovery.GiveDirty cell) = None
recovery_point (recovery.FlushGiven cell) = None
recovery_point (recovery.BackGiven cell) = None
recovery_point recovery.LoadAnnounce = Some recoveries.Freed
recovery_point recovery.LoadHeader = Some recoveries.Freed
recovery_point recovery.LoadHead = Some recoveries.Freed
recovery_point recovery.FlushHead = Some recoveries.Freed
recovery_point recovery.BackHead = Some recoveries.Freed
recovery_point recovery.LoadDone = Some recoveries.Freed
recovery_point (recovery.OrMark counts) = Some recoveries.Kept
recovery_point (recovery.FlushMark counts) = Some recoveries.Kept
recovery_point (recovery.BackMark counts) = Some recoveries.Kept
recovery_point (recovery.StoreOutcome counts) = Some recoveries.Marked
recovery_point (recovery.FlushOutcome counts) = Some recoveries.Marked
recovery_point (recovery.BackOutcome counts) = Some recoveries.Marked
recovery_point (recovery.Answer how) = recovered_point how

-- of a migration: after its last copy all words are copied, and with its answer the second layout is the sheet's
abbrev pub migration_point : MigrateStage → Option MigrationPoint
migration_point migration.LoadVersion = None
migration_point (migration.LoadOld at) = None
migration_point (migration.StoreNew at) = None
migration_point (migration.FlushNew at) = None
migration_point (migration.BackNew at) = None
migration_point migration.Swap = Some migrations.Copied
migration_point (migration.FlushVersion migrate_ends.Migrated) = Some migrations.Copied
migration_point (migration.BackVersion migrate_ends.Migrated) = Some migrations.Copied
migration_point (migration.Answer migrate_ends.Migrated) = Some migrations.Switched
migration_point (migration.FlushVersion migrate_ends.Already) = None
migration_point (migration.BackVersion migrate_ends.Already) = None
migration_point (migration.Answer migrate_ends.Already) = None

-- the last point that a process's call has passed, where it is in one and has passed one
abbrev pub point_of : Situation → Option Point
point_of (Idle next) = None
point_of Stopped = None
point_of (Editing e) = option_map Edit (edit_point e.stage)
point_of (Working e) = option_map Work (work_point e.stage)
point_of (Recovering e) = option_map Recovery (recovery_point e.stage)
point_of (Showing e) = None
point_of (Migrating e) = option_map Migration (migration_point e.stage)
