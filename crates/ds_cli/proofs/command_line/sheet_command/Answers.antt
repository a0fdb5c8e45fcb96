use Rattle.ds_cli.proofs.command_line.sheet_command.Goals as goal

pub returns : goal.returns
returns c =
    let one = c.with_argument-one.ensures _ _ c.serve_alone.ensures c.listen_option.ensures.rule c.listen_option.ensures.local in
    let two = c.with_argument-two.ensures _ _ one c.number_option.ensures.rule c.number_option.ensures.local in
    c.with_argument.ensures _ _ two c.number_option-2.ensures.rule c.number_option-2.ensures.local
