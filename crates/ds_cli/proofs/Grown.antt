-- Commands of `clap` that grow by an option or a subcommand.
use Rattle.std.proofs.Common.{◌≡◌, ◌∙◌, ◌||◌, ap, ap₂, false, Bool}
use Rattle.clap.specs.Words.{AddsArg, AddsSubcommand, App, Rule, rule_of, with_rule, with_subcommand}
use Rattle.clap.specs.declared.builder.arg.Arg.{Arg}
use Rattle.clap.specs.declared.builder.command.Command.{Command}
use Rattle.clap.specs.declared.builder.command.Command.TheOpen.{Command-F}
use Rattle.ds_cli.specs.CommandLines.{IsCommand}

-- whether an argument of the command is global
abbrev pub has_globals : Command-F Command → Bool
has_globals c = c.has_globals

-- by an option that is not global
pub grown : (old new : Command) (a : Arg) (app : App) (rule : Rule) → AddsArg old a new → IsCommand app old → rule_of a ≡ rule → a.global ≡ false
    → IsCommand (with_rule app rule) new
grown old new a app rule adds is r local = record {
  is = adds.shape local ∙ ap₂ with_rule is.is r;
  local = adds.globals ∙ ap₂ (λ (x y : Bool). x || y) is.local local;
}

-- by a subcommand with no global argument
pub grown_below : (old sub new : Command) (app below : App) → AddsSubcommand old sub new → IsCommand app old → IsCommand below sub
    → IsCommand (with_subcommand app below.top) new
grown_below old sub new app below adds is under = record {
  is = adds.shape under.local ∙ ap₂ with_subcommand is.is (ap (λ (a : App). a.top) under.is);
  local = adds.globals ∙ ap₂ (λ (x y : Bool). x || y) is.local under.local;
}
