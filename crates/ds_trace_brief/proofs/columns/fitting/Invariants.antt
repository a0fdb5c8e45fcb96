use Rattle.std.proofs.Common.{◌≡◌, ◌≤◌, map, take}
use Rattle.std.specs.Prelude.{sum}
use Rattle.ds_trace_brief.specs.Briefs.{width_of}
use Rattle.ds_trace_brief.proofs.columns.fitting.Given as goal

abbrev pub invariant-loop-column : goal.invariant-loop-column
invariant-loop-column l = record {
  count : l.count ≡ l.column-index;
  used : l.used ≡ sum (map width_of (take l.column-index l.columns));
  within : l.used ≤ l.room;
}
