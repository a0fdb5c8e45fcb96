use Rattle.std.proofs.Common.{◌≡◌, map, take}
use Rattle.std.specs.Prelude.{All}
use Rattle.ds_trace_brief.specs.Briefs.{IsRowOf, event_of}
use Rattle.ds_trace_brief.proofs.rows.rows.Given as goal

abbrev pub invariant-loop-number : goal.invariant-loop-number
invariant-loop-number l = record {
  events : map event_of l.rows.items ≡ take l.number l.events;
  rows : All (IsRowOf l.trace l.passages) l.rows.items;
}
