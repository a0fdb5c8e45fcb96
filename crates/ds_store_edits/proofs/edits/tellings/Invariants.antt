use Rattle.std.proofs.Common.{◌≡◌, ◌+◌, ◌≤◌, length, map}
use Rattle.std.specs.String.{string_bytes}
use Rattle.ds_store_edits.specs.JournalEdits.{tellings}
use Rattle.ds_store_edits.proofs.edits.tellings.Given as goal

abbrev pub invariant-loop-rest : goal.invariant-loop-rest
invariant-loop-rest l = record {
  so_far : tellings l.layout (map string_bytes l.lines) ≡ l.count + tellings l.layout (map string_bytes l.rest);
  few : l.count + length l.rest ≤ length l.lines;
}

abbrev pub decreases-loop-rest : goal.decreases-loop-rest
decreases-loop-rest l = length l.rest
