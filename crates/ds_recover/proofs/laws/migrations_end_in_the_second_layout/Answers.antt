use Rattle.ds_recover.proofs.MigrationLaws.{ends_second}
use Rattle.ds_recover.proofs.laws.migrations_end_in_the_second_layout.Goals as goal

pub returns : goal.returns
returns c = ends_second
