use Rattle.std.proofs.Common.{◌≡◌, length, map}
use Rattle.std.specs.String.{string_bytes}
use Rattle.ds_store_edits.specs.JournalEdits.{entry_view}
use Rattle.ds_store_edits.proofs.Makers.{HasListed}
use Rattle.ds_store_edits.proofs.edits.entries.Given as goal

abbrev pub invariant-loop-line : goal.invariant-loop-line
invariant-loop-line l = record {
  count : length l.passed.standings.items ≡ l.layout.processes;
  listed : HasListed l.layout (map string_bytes l.before) (map string_bytes l.lines) l.passed (map entry_view l.entries.items) l.line-index;
}
