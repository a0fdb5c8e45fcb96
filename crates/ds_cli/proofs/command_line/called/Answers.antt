use Rattle.std.proofs.Common.{◌∙◌, ap}
use Rattle.std.proofs.lemmas.Result.{IfOk-at_ok, IfOk-weaker}
use Rattle.clap.specs.Simple.{app_of_fields}
use Rattle.ds_cli.specs.CommandLines.{IsCommand}
use Rattle.ds_cli.proofs.Grown.{has_globals}
use Rattle.ds_cli.proofs.command_line.called.Goals as goal

pub returns : goal.returns
returns c app is =
    let alone = IfOk-at_ok (IsCommand app) (c.in_ok-command.was) is in
    IfOk-weaker c.bin_name.result _ _ (λ r h. record {
      is = ap app_of_fields h.0 ∙ alone.is;
      local = ap has_globals h.0 ∙ alone.local;
    }) c.bin_name.ensures
