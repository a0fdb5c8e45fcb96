-- The command line of `dsheet`, and what its words ask for.
use Rattle.std.specs.Prelude.{◌≡◌, ◌≢◌, ◌⊎◌, List, [], ◌∷◌, Option, Some, None, false, true, codes, pos}
use Rattle.clap.specs.Words.{App, app_of, Row, Rule, Text, HasKind, fault_of, first_of, kind_of, new_app, new_rule, one_of, subcommand_of, with_rule, with_subcommand}
use Rattle.clap.specs.declared.error.kind.ErrorKind.TheVariants.{OutOfMemory}
use Rattle.clap.specs.declared.builder.command.Command.{Command}
use Rattle.clap.specs.declared.builder.command.Command.TheViews.{out-Command as fields_of}
use Rattle.clap.specs.declared.builder.action.ArgAction.TheVariants.{SetTrue}
use Rattle.clap.specs.declared.builder.value_parser.ValueParser.TheVariants.{Signed}
use Rattle.ds_cli.specs.declared.command_line.Action.{Action}
use Rattle.ds_cli.specs.declared.command_line.Action.TheVariants.{Run, Stops, Report, Explore, Trace, Serve, Keep, Connect, Check, Log, Export, Import, Compact, Backup}
use Rattle.ds_cli.specs.declared.command_line.OptionsFault.{OptionsFault}
use Rattle.ds_cli.specs.declared.command_line.OptionsFault.TheVariants.{CommandLine, NoCommand, NoFile, OutOfLimits}
use Rattle.ds_cli.specs.Connectings.{IsConnecting, IsStopping}
use Rattle.ds_cli.specs.Notations.{IsNotation}
use Rattle.ds_cli.specs.Explorings.{IsExploring}
use Rattle.ds_cli.specs.Exportings.{IsExporting}
use Rattle.ds_cli.specs.Importings.{IsImporting}
use Rattle.ds_cli.specs.Loggings.{IsLogging}
use Rattle.ds_cli.specs.Reportings.{IsReporting}
use Rattle.ds_cli.specs.Runnings.{IsRunning}
use Rattle.ds_cli.specs.Servings.{IsLimitOf, IsServing}
use Rattle.ds_cli.specs.Tracings.{IsTracing}

-- `clap`'s command is this one, with no global argument
pub record IsCommand (app : App) (command : Command) : Type 0 where
  pub is : app_of command ≡ app
  pub local : (fields_of command).has_globals ≡ false

-- the flag `--stops`
abbrev pub stops : Rule
stops = record (new_rule (codes "stops")) { long = Some (codes "stops"); action = Some SetTrue }

-- the option `--listen` with one value
abbrev pub listen : Rule
listen = record (new_rule (codes "listen")) { long = Some (codes "listen"); value_names = 1 }

-- an option of this name with one value, which is a number of 16 bits, and this one where it is not there
abbrev pub number_option : Text → Text → Rule
number_option name default = record (new_rule name) {
  long = Some name;
  value_names = 1;
  parser = Some (Signed (pos 0) (pos 65535));
  defaults = default ∷ [];
}

-- an option of this name with one value, which is a number of 16 bits
abbrev pub given_number : Text → Rule
given_number name = record (new_rule name) { long = Some name; value_names = 1; parser = Some (Signed (pos 0) (pos 65535)) }

-- a flag of this name
abbrev pub flag : Text → Rule
flag name = record (new_rule name) { long = Some name; action = Some SetTrue }

-- the argument that names the file of a script or a grid, where that is not standard input
abbrev pub input : Rule
input = record (new_rule (codes "file")) { value_names = 1 }

-- `dsheet run [FILE] [--stops] [--from K] [--to K] [--strict] [--brief] [--json] [--a1]`
abbrev pub run_command : App
run_command = with_rule (with_rule (with_rule (with_rule (with_rule (with_rule (with_rule (with_rule (new_app (codes "run")) input) stops) (given_number (codes "from")))
    (given_number (codes "to"))) (flag (codes "strict"))) (flag (codes "brief"))) (flag (codes "json"))) (flag (codes "a1"))

-- `dsheet explore [FILE] [--crashes] [--stops] [--evictions] [--most N]`
abbrev pub orders_command : App
orders_command = with_rule (with_rule (with_rule (with_rule (with_rule (new_app (codes "explore")) input) (flag (codes "crashes"))) (flag (codes "stops")))
    (flag (codes "evictions"))) (number_option (codes "most") (codes "1000"))

-- the same, with `[--summary] [--json] [--show N] [--trace N]`
abbrev pub explore_command : App
explore_command = with_rule (with_rule (with_rule (with_rule orders_command (flag (codes "summary"))) (flag (codes "json"))) (number_option (codes "show") (codes "0")))
    (number_option (codes "trace") (codes "0"))

-- `dsheet trace [FILE] [--brief]`
abbrev pub trace_command : App
trace_command = with_rule (with_rule (new_app (codes "trace")) input) (flag (codes "brief"))

-- `dsheet report [FILE] [--labels] [--json] [--a1]`
abbrev pub report_command : App
report_command = with_rule (with_rule (with_rule (with_rule (new_app (codes "report")) input) (flag (codes "labels"))) (flag (codes "json"))) (flag (codes "a1"))

-- `dsheet serve [--listen ADDRESS] [--columns N] [--rows N]`
abbrev pub sheet_command : App
sheet_command = with_rule (with_rule (with_rule (new_app (codes "serve")) listen)
    (number_option (codes "columns") (codes "0"))) (number_option (codes "rows") (codes "0"))

-- the same with [--processes N] [--workers N] [--sessions N] [--forever]
abbrev pub shared_command : App
shared_command = with_rule (with_rule (with_rule (with_rule sheet_command (number_option (codes "processes") (codes "0")))
    (number_option (codes "workers") (codes "0"))) (given_number (codes "sessions"))) (flag (codes "forever"))

-- the option `--store` with one value
abbrev pub store : Rule
store = record (new_rule (codes "store")) { long = Some (codes "store"); value_names = 1 }

-- the option `--token-file` with one value
abbrev pub token_file : Rule
token_file = record (new_rule (codes "token-file")) { long = Some (codes "token-file"); value_names = 1 }

-- the option `--log` with one value
abbrev pub log_option : Rule
log_option = record (new_rule (codes "log")) { long = Some (codes "log"); value_names = 1; defaults = codes "info" ∷ [] }

-- the option `--http` with one value
abbrev pub http : Rule
http = record (new_rule (codes "http")) { long = Some (codes "http"); value_names = 1 }

-- the same with [--http ADDRESS] [--token-file FILE] [--open]
abbrev pub guarded_command : App
guarded_command = with_rule (with_rule (with_rule shared_command http) token_file) (flag (codes "open"))

-- the same with [--at-once N] [--idle SECONDS] [--store FILE] [--log LEVEL]
abbrev pub serve_command : App
serve_command = with_rule (with_rule (with_rule (with_rule guarded_command (number_option (codes "at-once") (codes "64")))
    (number_option (codes "idle") (codes "300"))) store) log_option

-- an argument of this name, which has to be there
abbrev pub file : Text → Rule
file name = record (new_rule name) { value_names = 1; required = true }

-- the option `--key` with one value
abbrev pub key : Rule
key = record (new_rule (codes "key")) { long = Some (codes "key"); value_names = 1 }

-- `dsheet connect SERVER [--process N] [--timeout SECONDS] [--token-file FILE] [--key PREFIX] [--a1]`
abbrev pub connect_command : App
connect_command = with_rule (with_rule (with_rule (with_rule (with_rule (with_rule (new_app (codes "connect")) (file (codes "server"))) (given_number (codes "process")))
    (number_option (codes "timeout") (codes "60"))) token_file) key) (flag (codes "a1"))

-- `dsheet COMMAND FILE`
abbrev pub file_command : Text → App
file_command name = with_rule (new_app name) (file (codes "file"))

-- `dsheet export FILE [--until N] [--csv] [--values] [--json]`
abbrev pub export_command : App
export_command = with_rule (with_rule (with_rule (with_rule (file_command (codes "export")) (number_option (codes "until") (codes "0"))) (flag (codes "csv")))
    (flag (codes "values"))) (flag (codes "json"))

-- the option `--cell` with one value
abbrev pub cell : Rule
cell = record (new_rule (codes "cell")) { long = Some (codes "cell"); value_names = 1 }

-- `dsheet log FILE [--cell CELL] [--at N] [--values]`
abbrev pub log_command : App
log_command = with_rule (with_rule (with_rule (file_command (codes "log")) cell) (number_option (codes "at") (codes "0"))) (flag (codes "values"))

-- `dsheet import FILE [--csv] [--a1]`
abbrev pub import_command : App
import_command = with_rule (with_rule (file_command (codes "import")) (flag (codes "csv"))) (flag (codes "a1"))

-- `dsheet compact FILE NEW`
abbrev pub compact_command : App
compact_command = with_rule (file_command (codes "compact")) (file (codes "new"))

-- `dsheet backup FILE COPY`
abbrev pub backup_command : App
backup_command = with_rule (file_command (codes "backup")) (file (codes "copy"))

-- the program with the subcommands that work on a store
abbrev pub with_stores : App → App
with_stores app = with_subcommand (with_subcommand (with_subcommand (with_subcommand (with_subcommand (with_subcommand app (file_command (codes "check")).top)
    log_command.top) export_command.top) import_command.top) compact_command.top) backup_command.top

-- the program, which has a version and wants one of its subcommands
abbrev pub dsheet_alone : App
dsheet_alone = record (new_app (codes "dsheet")) {
  top = record (new_app (codes "dsheet")).top {
    has_version = true;
    subcommand_required = true;
    arg_required_else_help = true;
  };
}

-- the program with its subcommands
abbrev pub dsheet : App
dsheet = with_stores (with_subcommand (with_subcommand (with_subcommand (with_subcommand (with_subcommand (with_subcommand dsheet_alone run_command.top) report_command.top)
    serve_command.top) explore_command.top) trace_command.top) connect_command.top)

-- the argument or option of this name has this value
abbrev pub Names : List Row → Text → Text → Type 0
Names rows name value = first_of name rows ≡ Some value

-- a subcommand of this name with these matches asks for this
abbrev pub Asks : Text → List Row → Action → Type 0
Asks name rows (Run running) = (name ≡ codes "run") × (one_of (codes "stops") rows ≡ Some (codes "true") → ⊥) × (first_of (codes "from") rows ≡ None) × (first_of (codes "to") rows ≡ None)
    × (one_of (codes "brief") rows ≡ Some (codes "true") → ⊥) × IsRunning rows running
Asks name rows (Stops stopping running) = (name ≡ codes "run") × (one_of (codes "stops") rows ≡ Some (codes "true")) × IsStopping rows stopping × IsRunning rows running
Asks name rows (Report reporting) = (name ≡ codes "report") × IsReporting rows reporting
Asks name rows (Trace tracing) = (name ≡ codes "trace") × IsTracing rows tracing
Asks name rows (Explore exploring) = (name ≡ codes "explore") × IsExploring rows exploring
Asks name rows (Serve serving) = (name ≡ codes "serve") × IsServing rows serving × (first_of (codes "store") rows ≡ None)
Asks name rows (Keep serving path) = (name ≡ codes "serve") × IsServing rows serving × Names rows (codes "store") path.now
Asks name rows (Connect connecting notation) = (name ≡ codes "connect") × IsConnecting rows connecting × IsNotation rows notation
Asks name rows (Check path) = (name ≡ codes "check") × Names rows (codes "file") path.now
Asks name rows (Log logging) = (name ≡ codes "log") × IsLogging rows logging
Asks name rows (Export exporting) = (name ≡ codes "export") × IsExporting rows exporting
Asks name rows (Import importing) = (name ≡ codes "import") × IsImporting rows importing
Asks name rows (Compact path new) = (name ≡ codes "compact") × Names rows (codes "file") path.now × Names rows (codes "new") new.now
Asks name rows (Backup path copy) = (name ≡ codes "backup") × Names rows (codes "file") path.now × Names rows (codes "copy") copy.now

-- the words of the command line ask for this, by the subcommand and the matches that `clap` reads from them
abbrev pub IsAskedBy : List Text → Action → Type 0
IsAskedBy words action = (name : Text) × (rows : List Row) × (subcommand_of dsheet words ≡ Some (name, rows)) × Asks name rows action

-- the subcommands that want the file of a store
abbrev pub WantsFile : Text → Type 0
WantsFile name = ((name ≡ codes "check") ⊎ ((name ≡ codes "export") ⊎ (name ≡ codes "log"))) ⊎ ((name ≡ codes "import") ⊎ ((name ≡ codes "compact") ⊎ (name ≡ codes "backup")))

-- a subcommand of this name with these matches asks for nothing, for this fault: it is none of these, an argument is
-- missing, or an option of this subcommand is out of its limits
abbrev pub AsksNothing : Text → List Row → OptionsFault → Type 0
AsksNothing name rows (CommandLine error) = ⊥
AsksNothing name rows NoCommand = (name ≢ codes "run") × (name ≢ codes "report") × (name ≢ codes "serve") × (name ≢ codes "explore") × (name ≢ codes "trace")
    × (name ≢ codes "connect") × (name ≢ codes "check") × (name ≢ codes "log")
    × (name ≢ codes "export") × (name ≢ codes "import") × (name ≢ codes "compact") × (name ≢ codes "backup")
AsksNothing name rows NoFile = (WantsFile name × (first_of (codes "file") rows ≡ None))
    ⊎ (((name ≡ codes "compact") × (first_of (codes "new") rows ≡ None)) ⊎ ((name ≡ codes "backup") × (first_of (codes "copy") rows ≡ None)))
AsksNothing name rows (OutOfLimits limit) = IsLimitOf name rows limit

-- the same of a subcommand that none but those on a store can be
abbrev pub AsksOfStore : Text → List Row → OptionsFault → Type 0
AsksOfStore name rows (CommandLine error) = ⊥
AsksOfStore name rows NoCommand = (name ≢ codes "check") × (name ≢ codes "log") × (name ≢ codes "export") × (name ≢ codes "import") × (name ≢ codes "compact") × (name ≢ codes "backup")
AsksOfStore name rows NoFile = AsksNothing name rows NoFile
AsksOfStore name rows (OutOfLimits limit) = AsksNothing name rows (OutOfLimits limit)

-- there is no subcommand, or it asks for nothing, for this fault
abbrev pub NamesNothing : Option (Text × List Row) → OptionsFault → Type 0
NamesNothing (Some entered) fault = AsksNothing entered.0 entered.1 fault
NamesNothing None NoCommand = Unit {0}
NamesNothing None fault = ⊥

-- the words of the command line ask for nothing, for this fault: memory ran out, or `clap` gives the error for a fault
-- of the words; or there is none for `clap`, and the subcommand that it reads from them asks for nothing
abbrev pub IsRefusedFor : List Text → OptionsFault → Type 0
IsRefusedFor words (CommandLine error) = HasKind (fault_of dsheet words) error
IsRefusedFor words fault = (fault_of dsheet words ≡ []) × NamesNothing (subcommand_of dsheet words) fault

-- the error says that memory ran out
abbrev pub IsWanting : OptionsFault → Type 0
IsWanting (CommandLine error) = kind_of error ≡ OutOfMemory
IsWanting fault = ⊥
