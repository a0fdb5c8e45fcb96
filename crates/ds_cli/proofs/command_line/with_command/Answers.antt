use Rattle.std.proofs.lemmas.Result.{IfOk-at_ok, IfOk-weaker}
use Rattle.ds_cli.specs.CommandLines.{IsCommand}
use Rattle.ds_cli.proofs.Grown.{grown_below}
use Rattle.ds_cli.proofs.command_line.with_command.Goals as goal

pub returns : goal.returns
returns c app under is below =
    let alone = IfOk-at_ok (IsCommand app) (c.in_ok-command.was) is in
    let inner = IfOk-at_ok (IsCommand under) (c.in_ok-below.was) below in
    IfOk-weaker c.subcommand.result _ _ (λ new adds. grown_below _ _ _ _ _ adds alone inner) c.subcommand.ensures
