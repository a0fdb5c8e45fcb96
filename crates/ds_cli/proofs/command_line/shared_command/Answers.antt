use Rattle.ds_cli.proofs.command_line.shared_command.Goals as goal

pub returns : goal.returns
returns c =
    let one = c.with_argument-one.ensures _ _ c.sheet_command.ensures c.number_option-processes.ensures.rule c.number_option-processes.ensures.local in
    let two = c.with_argument-two.ensures _ _ one c.number_option.ensures.rule c.number_option.ensures.local in
    let three = c.with_argument-three.ensures _ _ two c.given_number.ensures.rule c.given_number.ensures.local in
    c.with_argument.ensures _ _ three c.flag.ensures.rule c.flag.ensures.local
