use Rattle.ds_cli.proofs.command_line.backup_command.Goals as goal

pub returns : goal.returns
returns c =
    c.with_argument.ensures _ _ c.file_command-command.ensures c.file_argument-copy.ensures.rule c.file_argument-copy.ensures.local
