use Rattle.ds_cli.proofs.command_line.connect_command.Goals as goal

pub returns : goal.returns
returns c =
    let one = c.with_argument-one.ensures _ _ c.connect_alone.ensures c.file_argument-server.ensures.rule c.file_argument-server.ensures.local in
    let two = c.with_argument-two.ensures _ _ one c.given_number.ensures.rule c.given_number.ensures.local in
    let three = c.with_argument-three.ensures _ _ two c.number_option.ensures.rule c.number_option.ensures.local in
    let four = c.with_argument-four.ensures _ _ three c.token_file_option.ensures.rule c.token_file_option.ensures.local in
    let five = c.with_argument-five.ensures _ _ four c.key_option.ensures.rule c.key_option.ensures.local in
    c.with_argument.ensures _ _ five c.a1_flag.ensures.rule c.a1_flag.ensures.local
