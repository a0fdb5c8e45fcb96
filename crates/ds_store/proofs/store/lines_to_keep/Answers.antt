use Rattle.std.proofs.Common.{◌++◌}
use Rattle.ds_store.proofs.store.lines_to_keep.Goals as goal

pub returns-clause-journal : goal.returns-clause-journal
returns-clause-journal c lines before goes = c.in_ok-put_notes.ensures.journal c.kept_all.new.counts.counts.items lines (before ++ c.args.edits.now) (c.in_ok-texts.ensures.journal lines before goes)
