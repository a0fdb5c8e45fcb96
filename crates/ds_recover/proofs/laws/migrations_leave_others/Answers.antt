use Rattle.ds_recover.proofs.MigrationLaws.{begin_leaves, migration_leaves}
use Rattle.ds_recover.proofs.laws.migrations_leave_others.Goals as goal

pub returns : goal.returns
returns c = record { steps = migration_leaves; begins = begin_leaves }
