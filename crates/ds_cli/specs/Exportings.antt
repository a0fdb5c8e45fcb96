-- What the export of a store is asked for, by the arguments of `dsheet export`.
use Rattle.std.specs.Prelude.{◌≡◌, ◌⊎◌, List, Some, codes}
use Rattle.clap.specs.Words.{Row, Text, first_of, one_of}
use Rattle.ds_cli.specs.Explorings.{IsFlag}
use Rattle.ds_cli.specs.Servings.{IsNumberOf}
use Rattle.ds_cli.specs.declared.exporting.Exporting.{Exporting}
use Rattle.ds_cli.specs.declared.exporting.ExportForm.{ExportForm}
use Rattle.ds_cli.specs.declared.exporting.ExportForm.TheVariants.{Lines, Texts, Values}

-- the flag of this name is set
abbrev pub IsSet : List Row → Text → Type 0
IsSet rows name = one_of name rows ≡ Some (codes "true")

-- what is written: the values with `--values`, the texts with `--csv` or `--json` alone, and else the lines
abbrev pub IsForm : List Row → ExportForm → Type 0
IsForm rows Values = IsSet rows (codes "values")
IsForm rows Texts = (IsSet rows (codes "values") → ⊥) × (IsSet rows (codes "csv") ⊎ IsSet rows (codes "json"))
IsForm rows Lines = (IsSet rows (codes "values") → ⊥) × (IsSet rows (codes "csv") → ⊥) × (IsSet rows (codes "json") → ⊥)

-- the matches of `dsheet export` ask for this export: each of its parts is that of its argument
pub record IsExporting (rows : List Row) (e : Exporting) : Type 0 where
  pub path : first_of (codes "file") rows ≡ Some e.path.now
  pub until : IsNumberOf rows (codes "until") e.until
  pub form : IsForm rows e.form
  pub json : IsFlag rows (codes "json") e.json
  pub one : IsSet rows (codes "csv") → IsSet rows (codes "json") → ⊥
