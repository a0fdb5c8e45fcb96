use Rattle.ds_cli.proofs.command_line.orders_command.Goals as goal

pub returns : goal.returns
returns c =
    let one = c.with_argument-one.ensures _ _ c.explore_alone.ensures c.script_argument.ensures.rule c.script_argument.ensures.local in
    let two = c.with_argument-two.ensures _ _ one c.flag.ensures.rule c.flag.ensures.local in
    let three = c.with_argument-three.ensures _ _ two c.flag-2.ensures.rule c.flag-2.ensures.local in
    let four = c.with_argument-four.ensures _ _ three c.flag-3.ensures.rule c.flag-3.ensures.local in
    c.with_argument.ensures _ _ four c.number_option.ensures.rule c.number_option.ensures.local
