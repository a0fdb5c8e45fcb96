use Rattle.ds_recover.proofs.Migrating.{migration_falls, migration_rank}
use Rattle.ds_recover.proofs.laws.migrations_are_short.Goals as goal

pub returns : goal.returns
returns c = record { falls = migration_falls; few = migration_rank }
