-- What an exploration is asked for, by the options of `dsheet explore`.
use Rattle.std.specs.Prelude.{◌≤◌, List, codes}
use Rattle.clap.specs.Words.{Row}
use Rattle.ds_cli.specs.ExploreForms.{IsExploreForm}
use Rattle.ds_cli.specs.Inputs.{IsInput}
pub use Rattle.ds_cli.specs.Numbers.{IsFlag}
use Rattle.ds_cli.specs.Numbers.{IsNumberOf}
use Rattle.ds_cli.specs.declared.exploring.Exploring.{Exploring}

-- the matches of `dsheet explore` ask for this exploration: each of its parts is that of its option
pub record IsExploring (rows : List Row) (e : Exploring) : Type 0 where
  pub file : IsInput rows e.file
  pub crashes : IsFlag rows (codes "crashes") e.crashes
  pub stops : IsFlag rows (codes "stops") e.stops
  pub evictions : IsFlag rows (codes "evictions") e.evictions
  pub most : IsNumberOf rows (codes "most") e.thousands
  pub some : 1 ≤ e.thousands
  pub form : IsExploreForm rows e.form
