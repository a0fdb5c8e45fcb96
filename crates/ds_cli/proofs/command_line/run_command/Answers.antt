use Rattle.ds_cli.proofs.command_line.run_command.Goals as goal

pub returns : goal.returns
returns c =
    let one = c.with_argument-one.ensures _ _ c.run_alone.ensures c.script_argument.ensures.rule c.script_argument.ensures.local in
    let two = c.with_argument-two.ensures _ _ one c.flag.ensures.rule c.flag.ensures.local in
    let three = c.with_argument-three.ensures _ _ two c.given_number.ensures.rule c.given_number.ensures.local in
    let four = c.with_argument-four.ensures _ _ three c.given_number-2.ensures.rule c.given_number-2.ensures.local in
    let five = c.with_argument-five.ensures _ _ four c.flag-2.ensures.rule c.flag-2.ensures.local in
    let six = c.with_argument-six.ensures _ _ five c.flag-3.ensures.rule c.flag-3.ensures.local in
    let seven = c.with_argument-seven.ensures _ _ six c.flag-4.ensures.rule c.flag-4.ensures.local in
    let eight = c.with_argument-eight.ensures _ _ seven c.a1_flag.ensures.rule c.a1_flag.ensures.local in
    c.called.ensures _ eight
