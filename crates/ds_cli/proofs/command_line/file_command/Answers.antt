use Rattle.ds_cli.proofs.command_line.file_command.Goals as goal

pub returns : goal.returns
returns c =
    c.with_argument.ensures _ _ c.described.ensures c.file_argument-file.ensures.rule c.file_argument-file.ensures.local
