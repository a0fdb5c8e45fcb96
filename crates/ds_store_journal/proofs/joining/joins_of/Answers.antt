use Rattle.std.specs.String.{string_bytes}
use Rattle.ds_store_journal.proofs.Noting.{few_lines}
use Rattle.ds_store_journal.proofs.joining.joins_of.Goals as goal

pub returns-in_default : goal.returns-in_default
returns-in_default c = few_lines c.args.layout.now string_bytes c.args.lines.now c.in_default.len_below
