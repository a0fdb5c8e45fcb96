-- What the answer of a migration says of the sheet that it began on.
use Rattle.std.specs.Prelude.{◌≡◌}
use Rattle.ds_layout.specs.declared.place.Edition.{Edition}
use Rattle.ds_layout.specs.declared.place.Edition.TheVariants.{First, Second}
use Rattle.ds_state.specs.declared.migration.MigrateEnd.{MigrateEnd}
use Rattle.ds_state.specs.declared.migration.MigrateEnd.TheVariants.{Migrated, Already}

-- Migrated says that processes saw the first layout, Already that they saw the second
abbrev pub HasFound : Edition → MigrateEnd → Type 0
HasFound edition Migrated = edition ≡ First
HasFound edition Already = edition ≡ Second
