-- What a server is asked for, by the options of `dsheet serve`.
use Rattle.std.specs.Prelude.{◌≡◌, ◌<◌, ◌≤◌, ℕ, zero, suc, List, Option, Some, None, codes, option_map}
use Rattle.log.specs.Level.{parse_filter}
use Rattle.log.specs.declared.level.LevelFilter.{LevelFilter}
use Rattle.clap.specs.Words.{Row, Text, first_of, one_of}
use Rattle.ds_formula.specs.Limits.{PROCESSES_MOST}
use Rattle.ds_formula.specs.Shapes.{MayHave}
use Rattle.ds_cli.specs.Addresses.{HasBadAddress, HasNoAddress, IsOpen, ListensAt}
use Rattle.ds_cli.specs.ExploreForms.{AreManyForms}
use Rattle.ds_cli.specs.Prefixes.{HasNoPrefix}
pub use Rattle.ds_cli.specs.Numbers.{HasValue, IsNumberOf, IsNumberOr, IsWritten}
use Rattle.ds_cli.specs.declared.serving.OutOfLimits.{OutOfLimits}
use Rattle.ds_cli.specs.declared.serving.OutOfLimits.TheVariants as limits
use Rattle.ds_cli.specs.declared.serving.Serving.{Serving}

-- the option of this name names a level of the log, and it is this one
pub record IsLevelOf (rows : List Row) (name : Text) (level : LevelFilter) : Type 0 where
  pub text : Text
  pub has : first_of name rows ≡ Some text
  pub names : parse_filter text ≡ Some level

-- the server has from 1 to 8 processes, fewer workers than processes, and room for one session at least
pub record IsWithinLimits (s : Serving) : Type 0 where
  pub some : 1 ≤ s.processes
  pub most : s.processes ≤ PROCESSES_MOST
  pub workers : s.workers < s.processes
  pub at_once : 1 ≤ s.at_once

-- how many sessions the server serves: as many as come, where `--forever` is given; else the number of the option, one at
-- least, and one where it is not given
abbrev pub ServesSessions : List Row → Option ℕ → Type 0
ServesSessions matches None = (one_of (codes "forever") matches ≡ Some (codes "true")) × (first_of (codes "sessions") matches ≡ None)
ServesSessions matches (Some sessions) = (one_of (codes "forever") matches ≡ Some (codes "true") → ⊥)
    × IsNumberOr matches (codes "sessions") 1 sessions × (1 ≤ sessions)

-- the option of this name has this text as its value, or is not there
abbrev pub IsTextOf : List Row → Text → Option (List ℕ) → Type 0
IsTextOf rows name text = first_of name rows ≡ text

-- what a new sheet has, of which an option asks for this number: 2, where it leaves it open
abbrev pub or_two : ℕ → ℕ
or_two zero = 2
or_two (suc n) = suc n

-- the matches of `dsheet serve` ask for this server: each of its parts is the value of its option, and it is within
-- the limits
pub record IsServing (matches : List Row) (s : Serving) : Type 0 where
  pub addresses : ListensAt matches s.addresses
  pub token_file : IsTextOf matches (codes "token-file") (option_map (λ t. t.now) s.token_file)
  pub columns : IsNumberOf matches (codes "columns") s.asked.columns
  pub rows : IsNumberOf matches (codes "rows") s.asked.rows
  pub processes : IsNumberOf matches (codes "processes") s.asked.processes
  pub shape : (s.shape.columns ≡ or_two s.asked.columns) × (s.shape.rows ≡ or_two s.asked.rows)
  pub has : s.processes ≡ or_two s.asked.processes
  pub workers : IsNumberOf matches (codes "workers") s.workers
  pub sessions : ServesSessions matches s.sessions
  pub at_once : IsNumberOf matches (codes "at-once") s.at_once
  pub idle : IsNumberOf matches (codes "idle") s.idle
  pub log : IsLevelOf matches (codes "log") s.log
  pub within : IsWithinLimits s

-- the option of this name has no number of 16 bits as its value
abbrev pub HasNoNumber : List Row → Text → Type 0
HasNoNumber rows name = (n : ℕ) → n < 65536 → IsNumberOf rows name n → ⊥

-- the option of this name is given, and has no number of 16 bits as its value
abbrev pub HasBadNumber : List Row → Text → Type 0
HasBadNumber rows name = HasValue rows name × HasNoNumber rows name

-- the option of this name names no level of the log
abbrev pub HasNoLevel : List Row → Text → Type 0
HasNoLevel rows name = (level : LevelFilter) → IsLevelOf rows name level → ⊥

-- the argument of this name is no number of a process that a sheet can have
abbrev pub HasNoProcess : List Row → Text → Type 0
HasNoProcess rows name = (process : ℕ) → IsNumberOf rows name process → process < PROCESSES_MOST → ⊥

-- the options name no shape of a sheet
abbrev pub HasNoShape : List Row → Type 0
HasNoShape matches = (columns rows : ℕ) → IsNumberOf matches (codes "columns") columns → IsNumberOf matches (codes "rows") rows → MayHave (or_two columns) (or_two rows) → ⊥

-- the option has no number of processes of at most 8
abbrev pub HasNoProcesses : List Row → Type 0
HasNoProcesses matches = (processes : ℕ) → IsNumberOf matches (codes "processes") processes → or_two processes ≤ PROCESSES_MOST → ⊥

-- the options have a number of processes of at most 8, and none of workers below that of the processes of a new sheet
pub record HasNoWorkers (matches : List Row) : Type 0 where
  pub processes : ℕ
  pub has : IsNumberOf matches (codes "processes") processes
  pub most : or_two processes ≤ PROCESSES_MOST
  pub none : (workers : ℕ) → IsNumberOf matches (codes "workers") workers → workers < or_two processes → ⊥

-- the option of this name has no number from 1 to 65,535
abbrev pub HasNone : List Row → Text → Type 0
HasNone matches name = (n : ℕ) → IsNumberOf matches name n → 1 ≤ n → n < 65536 → ⊥

-- the options that an error names have no values within the limits; one that may be left out is given
abbrev pub IsOutOfLimits : List Row → OutOfLimits → Type 0
IsOutOfLimits matches limits.Nowhere = (first_of (codes "listen") matches ≡ None) × (first_of (codes "http") matches ≡ None)
IsOutOfLimits matches limits.Listen = HasBadAddress matches (codes "listen")
IsOutOfLimits matches limits.Open = IsOpen matches (codes "listen")
IsOutOfLimits matches limits.Http = HasBadAddress matches (codes "http")
IsOutOfLimits matches limits.OpenHttp = IsOpen matches (codes "http")
IsOutOfLimits matches limits.Shape = HasNoShape matches
IsOutOfLimits matches limits.Processes = HasNoProcesses matches
IsOutOfLimits matches limits.Workers = HasNoWorkers matches
IsOutOfLimits matches limits.Sessions = HasValue matches (codes "sessions") × HasNone matches (codes "sessions")
IsOutOfLimits matches limits.AtOnce = HasNone matches (codes "at-once")
IsOutOfLimits matches limits.Idle = HasNoNumber matches (codes "idle")
IsOutOfLimits matches limits.Log = HasNoLevel matches (codes "log")
IsOutOfLimits matches limits.Server = HasNoAddress matches (codes "server")
IsOutOfLimits matches limits.Process = HasValue matches (codes "process") × HasNoProcess matches (codes "process")
IsOutOfLimits matches limits.Timeout = HasNoNumber matches (codes "timeout")
IsOutOfLimits matches limits.Key = HasNoPrefix matches
IsOutOfLimits matches limits.From = HasValue matches (codes "from") × HasNone matches (codes "from")
IsOutOfLimits matches limits.To = HasBadNumber matches (codes "to")
IsOutOfLimits matches limits.Most = HasNone matches (codes "most")
IsOutOfLimits matches limits.Show = HasNoNumber matches (codes "show")
IsOutOfLimits matches limits.Trace = HasNoNumber matches (codes "trace")
IsOutOfLimits matches limits.Forms = AreManyForms matches
IsOutOfLimits matches limits.Until = HasNoNumber matches (codes "until")
IsOutOfLimits matches limits.At = HasNoNumber matches (codes "at")
IsOutOfLimits matches limits.CsvJson = (one_of (codes "csv") matches ≡ Some (codes "true")) × (one_of (codes "json") matches ≡ Some (codes "true"))
IsOutOfLimits matches limits.SessionsForever = HasValue matches (codes "sessions") × (one_of (codes "forever") matches ≡ Some (codes "true"))
IsOutOfLimits matches limits.Backwards = (from to : ℕ) × IsNumberOr matches (codes "from") 1 from × IsNumberOr matches (codes "to") 0 to × (1 ≤ to) × (to < from)
IsOutOfLimits matches limits.FromAlone = HasValue matches (codes "from") × (one_of (codes "stops") matches ≡ Some (codes "true") → ⊥)
IsOutOfLimits matches limits.ToAlone = HasValue matches (codes "to") × (one_of (codes "stops") matches ≡ Some (codes "true") → ⊥)
IsOutOfLimits matches limits.JsonStops = (one_of (codes "json") matches ≡ Some (codes "true")) × (one_of (codes "stops") matches ≡ Some (codes "true"))
IsOutOfLimits matches limits.NoAt = IsNumberOf matches (codes "at") 0 × (one_of (codes "values") matches ≡ Some (codes "true"))
IsOutOfLimits matches limits.Brief = (one_of (codes "brief") matches ≡ Some (codes "true")) × (one_of (codes "stops") matches ≡ Some (codes "true") → ⊥)

-- the subcommand whose option an error names
abbrev pub command_of : OutOfLimits → Text
command_of limits.From = codes "run"
command_of limits.To = codes "run"
command_of limits.Backwards = codes "run"
command_of limits.FromAlone = codes "run"
command_of limits.ToAlone = codes "run"
command_of limits.Brief = codes "run"
command_of limits.JsonStops = codes "run"
command_of limits.Most = codes "explore"
command_of limits.Show = codes "explore"
command_of limits.Trace = codes "explore"
command_of limits.Forms = codes "explore"
command_of limits.Server = codes "connect"
command_of limits.Process = codes "connect"
command_of limits.Timeout = codes "connect"
command_of limits.Key = codes "connect"
command_of limits.Until = codes "export"
command_of limits.CsvJson = codes "export"
command_of limits.At = codes "log"
command_of limits.NoAt = codes "log"
command_of other = codes "serve"

-- the error names an option of this subcommand, and its value is out of the limits
abbrev pub IsLimitOf : Text → List Row → OutOfLimits → Type 0
IsLimitOf name matches limit = (name ≡ command_of limit) × IsOutOfLimits matches limit

-- how the subcommand is used whose option an error names
abbrev pub usage_of : OutOfLimits → Text
usage_of limits.From = codes "dsheet run [OPTIONS] [FILE]"
usage_of limits.To = codes "dsheet run [OPTIONS] [FILE]"
usage_of limits.Backwards = codes "dsheet run [OPTIONS] [FILE]"
usage_of limits.FromAlone = codes "dsheet run [OPTIONS] [FILE]"
usage_of limits.ToAlone = codes "dsheet run [OPTIONS] [FILE]"
usage_of limits.Brief = codes "dsheet run [OPTIONS] [FILE]"
usage_of limits.JsonStops = codes "dsheet run [OPTIONS] [FILE]"
usage_of limits.Most = codes "dsheet explore [OPTIONS] [FILE]"
usage_of limits.Show = codes "dsheet explore [OPTIONS] [FILE]"
usage_of limits.Trace = codes "dsheet explore [OPTIONS] [FILE]"
usage_of limits.Forms = codes "dsheet explore [OPTIONS] [FILE]"
usage_of limits.Server = codes "dsheet connect [OPTIONS] <SERVER>"
usage_of limits.Process = codes "dsheet connect [OPTIONS] <SERVER>"
usage_of limits.Timeout = codes "dsheet connect [OPTIONS] <SERVER>"
usage_of limits.Key = codes "dsheet connect [OPTIONS] <SERVER>"
usage_of limits.Until = codes "dsheet export [OPTIONS] <FILE>"
usage_of limits.CsvJson = codes "dsheet export [OPTIONS] <FILE>"
usage_of limits.At = codes "dsheet log [OPTIONS] <FILE>"
usage_of limits.NoAt = codes "dsheet log [OPTIONS] <FILE>"
usage_of other = codes "dsheet serve [OPTIONS]"
