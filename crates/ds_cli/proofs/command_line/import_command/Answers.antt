use Rattle.ds_cli.proofs.command_line.import_command.Goals as goal

pub returns : goal.returns
returns c =
    let one = c.with_argument-one.ensures _ _ c.file_command-command.ensures c.flag.ensures.rule c.flag.ensures.local in
    c.with_argument.ensures _ _ one c.a1_flag.ensures.rule c.a1_flag.ensures.local
