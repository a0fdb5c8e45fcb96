use Rattle.ds_cli.proofs.command_line.trace_command.Goals as goal

pub returns : goal.returns
returns c =
    let one = c.with_argument-one.ensures _ _ c.trace_alone.ensures c.script_argument.ensures.rule c.script_argument.ensures.local in
    let two = c.with_argument-two.ensures _ _ one c.flag.ensures.rule c.flag.ensures.local in
    c.called.ensures _ two
