-- What the import of a store is asked for, by the arguments of `dsheet import`.
use Rattle.std.specs.Prelude.{◌≡◌, List, Some, codes}
use Rattle.clap.specs.Words.{Row, first_of}
use Rattle.ds_cli.specs.Explorings.{IsFlag}
use Rattle.ds_cli.specs.Notations.{IsNotation}
use Rattle.ds_cli.specs.declared.importing.Importing.{Importing}

-- the matches of `dsheet import` ask for this import: each of its parts is that of its argument
pub record IsImporting (rows : List Row) (i : Importing) : Type 0 where
  pub path : first_of (codes "file") rows ≡ Some i.path.now
  pub notation : IsNotation rows i.notation
  pub csv : IsFlag rows (codes "csv") i.csv
