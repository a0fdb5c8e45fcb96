use Rattle.std.proofs.lemmas.Result.{IfOk-at_ok, IfOk-weaker}
use Rattle.ds_cli.specs.CommandLines.{IsCommand}
use Rattle.ds_cli.proofs.Grown.{grown}
use Rattle.ds_cli.proofs.command_line.with_argument.Goals as goal

pub returns : goal.returns
returns c app rule is r local =
    let alone = IfOk-at_ok (IsCommand app) (c.in_ok-command.was) is in
    IfOk-weaker c.arg.result _ _ (λ new adds. grown _ _ _ _ _ adds alone r local) c.arg.ensures
