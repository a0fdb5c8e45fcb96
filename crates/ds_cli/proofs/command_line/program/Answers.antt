use Rattle.ds_cli.proofs.command_line.program.Goals as goal

pub returns : goal.returns
returns c =
    let one = c.with_command-one.ensures _ _ c.program_alone.ensures c.run_command.ensures in
    let two = c.with_command-two.ensures _ _ one c.report_command.ensures in
    let three = c.with_command-three.ensures _ _ two c.serve_command.ensures in
    let four = c.with_command-four.ensures _ _ three c.explore_command.ensures in
    let five = c.with_command-five.ensures _ _ four c.trace_command.ensures in
    let six = c.with_command-six.ensures _ _ five c.connect_command.ensures in
    c.called.ensures _ (c.with_stores.ensures _ six)
