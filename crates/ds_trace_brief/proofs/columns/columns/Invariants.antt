use Rattle.std.proofs.Common.{◌≡◌, map, take}
use Rattle.std.specs.Prelude.{All}
use Rattle.ds_trace_brief.specs.Briefs.{IsColumnOf, number_of}
use Rattle.ds_trace_brief.proofs.columns.columns.Given as goal

abbrev pub invariant-loop-number : goal.invariant-loop-number
invariant-loop-number l = record {
  numbers : map number_of l.columns.items ≡ take l.number-index l.numbers;
  columns : All (IsColumnOf l.trace l.events) l.columns.items;
}
