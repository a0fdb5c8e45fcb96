use Rattle.ds_cli.proofs.command_line.with_stores.Goals as goal

pub returns : goal.returns
returns c app is =
    let one = c.with_command-one.ensures _ _ is c.file_command-check.ensures in
    let two = c.with_command-two.ensures _ _ one c.log_command.ensures in
    let three = c.with_command-three.ensures _ _ two c.export_command.ensures in
    let four = c.with_command-four.ensures _ _ three c.import_command.ensures in
    let five = c.with_command-five.ensures _ _ four c.compact_command.ensures in
    c.with_command.ensures _ _ five c.backup_command.ensures
