-- What a client and a crashed script are asked for, by the arguments of `dsheet connect` and `dsheet run --stops`.
use Rattle.std.specs.Prelude.{◌≡◌, ◌<◌, ◌≤◌, ℕ, List, Option, Some, None, codes, option_map}
use Rattle.clap.specs.Words.{Row, first_of, one_of}
use Rattle.ds_formula.specs.Limits.{PROCESSES_MOST}
use Rattle.ds_cli.specs.declared.connecting.Connecting.{Connecting}
use Rattle.ds_cli.specs.declared.connecting.Stopping.{Stopping}
use Rattle.ds_cli.specs.Explorings.{IsFlag}
use Rattle.ds_cli.specs.Addresses.{IsAddressOf}
use Rattle.ds_cli.specs.Prefixes.{IsPrefixOf}
use Rattle.ds_cli.specs.Servings.{IsNumberOf, IsNumberOr, IsTextOf}

-- the matches ask for this process, one that a sheet can have, or for none
abbrev pub IsProcessOf : List Row → Option ℕ → Type 0
IsProcessOf rows None = first_of (codes "process") rows ≡ None
IsProcessOf rows (Some process) = IsNumberOf rows (codes "process") process × (process < PROCESSES_MOST)

-- the matches of `dsheet connect` ask for this client
pub record IsConnecting (rows : List Row) (c : Connecting) : Type 0 where
  pub server : IsAddressOf rows (codes "server") c.server
  pub process : IsProcessOf rows c.process
  pub timeout : IsNumberOf rows (codes "timeout") c.timeout
  pub token_file : IsTextOf rows (codes "token-file") (option_map (λ t. t.now) c.token_file)
  pub prefix : IsPrefixOf rows (option_map (λ t. t.now) c.prefix)

-- the matches of `dsheet run --stops` ask for these steps, and for no JSON
pub record IsStopping (rows : List Row) (s : Stopping) : Type 0 where
  pub from : IsNumberOr rows (codes "from") 1 s.from
  pub first : 1 ≤ s.from
  pub to : IsNumberOr rows (codes "to") 0 s.to
  pub forth : 1 ≤ s.to → s.from ≤ s.to
  pub words : one_of (codes "json") rows ≡ Some (codes "true") → ⊥
  pub brief : IsFlag rows (codes "brief") s.brief
