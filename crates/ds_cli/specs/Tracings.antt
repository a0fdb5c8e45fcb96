-- What a picture is asked for, by the options of `dsheet trace`.
use Rattle.std.specs.Prelude.{List, codes}
use Rattle.clap.specs.Words.{Row}
use Rattle.ds_cli.specs.Explorings.{IsFlag}
use Rattle.ds_cli.specs.Inputs.{IsInput}
use Rattle.ds_cli.specs.declared.tracing.Tracing.{Tracing}

-- the matches of `dsheet trace` ask for this picture: each of its parts is that of its option
pub record IsTracing (rows : List Row) (t : Tracing) : Type 0 where
  pub file : IsInput rows t.file
  pub brief : IsFlag rows (codes "brief") t.brief
