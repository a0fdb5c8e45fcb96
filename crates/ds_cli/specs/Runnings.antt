-- What the run of a script is asked for, by the options of `dsheet run`.
use Rattle.std.specs.Prelude.{List, codes}
use Rattle.clap.specs.Words.{Row}
use Rattle.ds_cli.specs.Explorings.{IsFlag}
use Rattle.ds_cli.specs.Inputs.{IsInput}
use Rattle.ds_cli.specs.Notations.{IsNotation}
use Rattle.ds_cli.specs.declared.running.Running.{Running}

-- the matches of `dsheet run` ask for this run: each of its parts is that of its option
pub record IsRunning (rows : List Row) (r : Running) : Type 0 where
  pub file : IsInput rows r.file
  pub notation : IsNotation rows r.notation
  pub strict : IsFlag rows (codes "strict") r.strict
  pub json : IsFlag rows (codes "json") r.json
