use Rattle.ds_cli.proofs.command_line.serve_command.Goals as goal

pub returns : goal.returns
returns c =
    let one = c.with_argument-one.ensures _ _ c.guarded_command.ensures c.number_option-at_once.ensures.rule c.number_option-at_once.ensures.local in
    let two = c.with_argument-two.ensures _ _ one c.number_option.ensures.rule c.number_option.ensures.local in
    let three = c.with_argument-three.ensures _ _ two c.store_option.ensures.rule c.store_option.ensures.local in
    let four = c.with_argument-four.ensures _ _ three c.log_option.ensures.rule c.log_option.ensures.local in
    c.called.ensures _ four
