use Rattle.ds_cli.proofs.command_line.log_command.Goals as goal

pub returns : goal.returns
returns c =
    let one = c.with_argument-one.ensures _ _ c.file_command-command.ensures c.cell_option.ensures.rule c.cell_option.ensures.local in
    let two = c.with_argument-two.ensures _ _ one c.number_option.ensures.rule c.number_option.ensures.local in
    c.with_argument.ensures _ _ two c.flag.ensures.rule c.flag.ensures.local
