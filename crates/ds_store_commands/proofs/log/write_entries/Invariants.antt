use Rattle.std.proofs.Common.{◌++◌, map, take}
use Rattle.std.specs.Io.KnownBytes.{Appends}
use Rattle.ds_store_edits.specs.JournalEdits.{entry_view}
use Rattle.ds_store_commands.specs.Lists.{begun_in, begun_text, lines_from}
use Rattle.ds_store_commands.proofs.log.write_entries.Given as goal

abbrev pub invariant-loop-index : goal.invariant-loop-index
invariant-loop-index g l = Appends (g.W.Write.contents l.fn.out) (g.W.Write.contents l.out) (begun_text (begun_in (map entry_view l.entries)) ++ lines_from 1 l.only (take l.index (map entry_view l.entries)))
