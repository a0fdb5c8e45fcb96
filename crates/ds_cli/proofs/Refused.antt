-- Words that ask for nothing.
use Rattle.std.proofs.Common.{◌≡◌, sym, subst, [], Some, List, Result, Ok, Err}
use Rattle.std.specs.Result.{IfErr, IsErrAnd}
use Rattle.clap.specs.Words.{HasKind, Row, Text, fault_of, subcommand_of}
use Rattle.clap.specs.declared.error.Error.{Error}
use Rattle.ds_cli.specs.declared.command_line.Action.{Action}
use Rattle.ds_cli.specs.declared.command_line.OptionsFault.{OptionsFault}
use Rattle.ds_cli.specs.declared.command_line.OptionsFault.TheVariants.{CommandLine, NoCommand, NoFile, OutOfLimits}
use Rattle.ds_cli.specs.CommandLines.{AsksNothing, IsRefusedFor, NamesNothing, dsheet}

-- the subcommand that the words name asks for nothing
pub refused_for : (words : List Text) (name : Text) (rows : List Row) (fault : OptionsFault) → fault_of dsheet words ≡ [] → subcommand_of dsheet words ≡ Some (name, rows)
    → AsksNothing name rows fault → IsRefusedFor words fault
refused_for words name rows (CommandLine error) none is h = absurd h
refused_for words name rows NoCommand none is h = (none, subst (λ o. NamesNothing o NoCommand) (sym is) h)
refused_for words name rows NoFile none is h = (none, subst (λ o. NamesNothing o NoFile) (sym is) h)
refused_for words name rows (OutOfLimits limit) none is h = (none, subst (λ o. NamesNothing o (OutOfLimits limit)) (sym is) h)

-- an error of `clap`'s is reported as it is
pub told_as : (words : List Text) (r : Result Action OptionsFault) (e : Error) → IsErrAnd r (λ fault. fault ≡ CommandLine e)
    → HasKind (fault_of dsheet words) e → IfErr r (IsRefusedFor words)
told_as words (Ok action) e told has = absurd told
told_as words (Err fault) e told has = subst (IsRefusedFor words) (sym told) has
