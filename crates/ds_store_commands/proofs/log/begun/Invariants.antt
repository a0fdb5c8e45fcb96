use Rattle.std.proofs.Common.{◌≡◌, map, take}
use Rattle.ds_store_edits.specs.JournalEdits.{entry_view}
use Rattle.ds_store_commands.specs.Lists.{begun_in}
use Rattle.ds_store_commands.proofs.log.begun.Given as goal

abbrev pub invariant-loop-entry : goal.invariant-loop-entry
invariant-loop-entry l = l.count ≡ begun_in (take l.entry-index (map entry_view l.entries))
