-- What the report of a grid is asked for, by the options of `dsheet report`.
use Rattle.std.specs.Prelude.{List, codes}
use Rattle.clap.specs.Words.{Row}
use Rattle.ds_cli.specs.Explorings.{IsFlag}
use Rattle.ds_cli.specs.Inputs.{IsInput}
use Rattle.ds_cli.specs.Notations.{IsNotation}
use Rattle.ds_cli.specs.declared.reporting.Reporting.{Reporting}

-- the matches of `dsheet report` ask for this report: each of its parts is that of its option
pub record IsReporting (rows : List Row) (r : Reporting) : Type 0 where
  pub file : IsInput rows r.file
  pub notation : IsNotation rows r.notation
  pub labels : IsFlag rows (codes "labels") r.labels
  pub json : IsFlag rows (codes "json") r.json
