-- What the log of a store is asked for, by the arguments of `dsheet log`.
use Rattle.std.specs.Prelude.{◌≡◌, ◌≤◌, List, Some, codes, option_map}
use Rattle.clap.specs.Words.{Row, first_of}
use Rattle.ds_cli.specs.Exportings.{IsSet}
use Rattle.ds_cli.specs.Servings.{IsNumberOf, IsTextOf}
use Rattle.ds_cli.specs.declared.logging.Logging.{Logging}
use Rattle.ds_cli.specs.declared.logging.Shown.{Shown}
use Rattle.ds_cli.specs.declared.logging.Shown.TheVariants.{Edits, Texts, Values}

-- what is shown: the list of the edits, or the texts after the first N, or with `--values` the values then
abbrev pub IsShown : List Row → Shown → Type 0
IsShown rows Edits = IsNumberOf rows (codes "at") 0 × (IsSet rows (codes "values") → ⊥)
IsShown rows (Texts at) = IsNumberOf rows (codes "at") at × (1 ≤ at) × (IsSet rows (codes "values") → ⊥)
IsShown rows (Values at) = IsNumberOf rows (codes "at") at × (1 ≤ at) × IsSet rows (codes "values")

-- the matches of `dsheet log` ask for this log: each of its parts is that of its argument
pub record IsLogging (rows : List Row) (l : Logging) : Type 0 where
  pub path : first_of (codes "file") rows ≡ Some l.path.now
  pub cell : IsTextOf rows (codes "cell") (option_map (λ t. t.now) l.cell)
  pub shown : IsShown rows l.shown
