use Rattle.ds_cli.proofs.command_line.explore_command.Goals as goal

pub returns : goal.returns
returns c =
    let one = c.with_argument-one.ensures _ _ c.orders_command.ensures c.flag-summary.ensures.rule c.flag-summary.ensures.local in
    let two = c.with_argument-two.ensures _ _ one c.flag.ensures.rule c.flag.ensures.local in
    let three = c.with_argument-three.ensures _ _ two c.number_option.ensures.rule c.number_option.ensures.local in
    let four = c.with_argument-four.ensures _ _ three c.number_option-2.ensures.rule c.number_option-2.ensures.local in
    c.called.ensures _ four
