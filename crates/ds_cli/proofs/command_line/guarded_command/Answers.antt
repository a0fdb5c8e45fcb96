use Rattle.ds_cli.proofs.command_line.guarded_command.Goals as goal

pub returns : goal.returns
returns c =
    let one = c.with_argument-one.ensures _ _ c.shared_command.ensures c.http_option.ensures.rule c.http_option.ensures.local in
    let two = c.with_argument-two.ensures _ _ one c.token_file_option.ensures.rule c.token_file_option.ensures.local in
    c.with_argument.ensures _ _ two c.flag.ensures.rule c.flag.ensures.local
