use Rattle.std.proofs.Common.{◌≡◌, ◌+◌, length, ◌++◌, ℕ, List, map, take}
use Rattle.std.specs.String.{string_bytes}
use Rattle.ds_store.specs.Opened.{Leads}
use Rattle.ds_store.proofs.replay.follow_rest.Given as goal

abbrev pub invariant-loop-line : goal.invariant-loop-line
invariant-loop-line l = record {
  at : l.number ≡ l.line-index + 1;
  counts : length l.fn.replay.counts.counts.items ≡ l.fn.replay.layout.processes → length l.replay.counts.counts.items ≡ l.replay.layout.processes;
  leads : (before : List (List ℕ)) → Leads l.fn.replay.layout l.fn.replay.counts.counts.items l.fn.replay.sheet before
      → Leads l.replay.layout l.replay.counts.counts.items l.replay.sheet (before ++ map string_bytes (take l.line-index l.rest));
}
