-- The points of calls, by their names.
use Rattle.std.specs.Prelude.{ℕ, Bool, true, false, ◌&&◌, List, codes, Option, Some, None, is_none, option_map}
use Rattle.ds_state.specs.Points.{point_of, has_reached}
use Rattle.ds_state.specs.declared.point.EditPoint.{EditPoint}
use Rattle.ds_state.specs.declared.point.EditPoint.TheVariants as edits
use Rattle.ds_state.specs.declared.point.WorkPoint.{WorkPoint}
use Rattle.ds_state.specs.declared.point.WorkPoint.TheVariants as works
use Rattle.ds_state.specs.declared.point.RecoveryPoint.{RecoveryPoint}
use Rattle.ds_state.specs.declared.point.RecoveryPoint.TheVariants as recoveries
use Rattle.ds_state.specs.declared.point.MigrationPoint.{MigrationPoint}
use Rattle.ds_state.specs.declared.point.MigrationPoint.TheVariants as migrations
use Rattle.ds_state.specs.declared.point.Point.{Point}
use Rattle.ds_state.specs.declared.point.Point.TheVariants.{Edit, Work, Recovery, Migration}
use Rattle.ds_state.specs.declared.situation.Situation.{Situation}
use Rattle.ds_state.specs.declared.situation.Situation.TheVariants.{Idle, Stopped, Editing, Working, Recovering, Showing, Migrating}
use Rattle.ds_script.specs.declared.point.PointName.{PointName}
use Rattle.ds_script.specs.declared.point.PointName.TheVariants.{Written, Announced, Indexed, Helped, Swung, Kept, Marked, Answered, Held, Stored, Valued, Spread, Cleared, Freed, Copied, Switched}

-- the name of a point in a script
abbrev pub name_of_point : PointName → List ℕ
name_of_point Written = codes "written"
name_of_point Announced = codes "announced"
name_of_point Indexed = codes "indexed"
name_of_point Helped = codes "helped"
name_of_point Swung = codes "swung"
name_of_point Kept = codes "kept"
name_of_point Marked = codes "marked"
name_of_point Answered = codes "answered"
name_of_point Held = codes "held"
name_of_point Stored = codes "stored"
name_of_point Valued = codes "valued"
name_of_point Spread = codes "spread"
name_of_point Cleared = codes "cleared"
name_of_point Freed = codes "freed"
name_of_point Copied = codes "copied"
name_of_point Switched = codes "switched"

-- the name of a point
abbrev pub name_of : Point → PointName
name_of (Edit edits.Written) = Written
name_of (Edit edits.Announced) = Announced
name_of (Edit edits.Indexed) = Indexed
name_of (Edit edits.Helped) = Helped
name_of (Edit edits.Swung) = Swung
name_of (Edit edits.Kept) = Kept
name_of (Edit edits.Marked) = Marked
name_of (Edit edits.Answered) = Answered
name_of (Work works.Held) = Held
name_of (Work works.Stored) = Stored
name_of (Work works.Valued) = Valued
name_of (Work works.Spread) = Spread
name_of (Work works.Cleared) = Cleared
name_of (Recovery recoveries.Freed) = Freed
name_of (Recovery recoveries.Kept) = Kept
name_of (Recovery recoveries.Marked) = Marked
name_of (Recovery recoveries.Answered) = Answered
name_of (Migration migrations.Copied) = Copied
name_of (Migration migrations.Switched) = Switched

-- ---- the point of each kind of call that has a name, if one has

-- of an edit
abbrev pub edit_named : PointName → Option EditPoint
edit_named Written = Some edits.Written
edit_named Announced = Some edits.Announced
edit_named Indexed = Some edits.Indexed
edit_named Helped = Some edits.Helped
edit_named Swung = Some edits.Swung
edit_named Kept = Some edits.Kept
edit_named Marked = Some edits.Marked
edit_named Answered = Some edits.Answered
edit_named _ = None

-- of a work
abbrev pub work_named : PointName → Option WorkPoint
work_named Held = Some works.Held
work_named Stored = Some works.Stored
work_named Valued = Some works.Valued
work_named Spread = Some works.Spread
work_named Cleared = Some works.Cleared
work_named _ = None

-- of a recovery
abbrev pub recovery_named : PointName → Option RecoveryPoint
recovery_named Freed = Some recoveries.Freed
recovery_named Kept = Some recoveries.Kept
recovery_named Marked = Some recoveries.Marked
recovery_named Answered = Some recoveries.Answered
recovery_named _ = None

-- of a migration
abbrev pub migration_named : PointName → Option MigrationPoint
migration_named Copied = Some migrations.Copied
migration_named Switched = Some migrations.Switched
migration_named _ = None

-- the point of the process's call that has this name, if that call has it
abbrev pub point_named_in : Situation → PointName → Option Point
point_named_in (Idle next) name = None
point_named_in Stopped name = None
point_named_in (Editing e) name = option_map Edit (edit_named name)
point_named_in (Working e) name = option_map Work (work_named name)
point_named_in (Recovering e) name = option_map Recovery (recovery_named name)
point_named_in (Showing e) name = None
point_named_in (Migrating e) name = option_map Migration (migration_named name)

-- whether the process is in a call
abbrev pub is_in_call : Situation → Bool
is_in_call (Idle next) = false
is_in_call Stopped = false
is_in_call (Editing e) = true
is_in_call (Working e) = true
is_in_call (Recovering e) = true
is_in_call (Showing e) = true
is_in_call (Migrating e) = true

-- whether the process is in a call that has no such point
abbrev pub lacks : Situation → PointName → Bool
lacks s name = is_in_call s && is_none (point_named_in s name)

-- whether the wanted point is passed, where the last one that is passed is this
abbrev pub is_passed : Option Point → Option Point → Bool
is_passed (Some last) (Some wanted) = has_reached last wanted
is_passed _ _ = false

-- the process's call has passed the point, or a later one
abbrev pub has_passed : Situation → PointName → Bool
has_passed s name = is_passed (point_of s) (point_named_in s name)
