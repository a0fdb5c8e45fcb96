use Rattle.ds_recover.proofs.Migrating.{migration_begins, migration_keeps}
use Rattle.ds_recover.proofs.laws.migrations_keep_soundness.Goals as goal

pub returns : goal.returns
returns c = record { begins = migration_begins; steps = migration_keeps }
