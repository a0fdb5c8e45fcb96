use Rattle.ds_cli.proofs.command_line.report_command.Goals as goal

pub returns : goal.returns
returns c =
    let one = c.with_argument-one.ensures _ _ c.report_alone.ensures c.input_argument-file.ensures.rule c.input_argument-file.ensures.local in
    let two = c.with_argument-two.ensures _ _ one c.flag-labels.ensures.rule c.flag-labels.ensures.local in
    let three = c.with_argument-three.ensures _ _ two c.flag.ensures.rule c.flag.ensures.local in
    let four = c.with_argument-four.ensures _ _ three c.a1_flag.ensures.rule c.a1_flag.ensures.local in
    c.called.ensures _ four
