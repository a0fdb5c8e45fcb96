use Rattle.std.proofs.Common.{◌≤◌}
use Rattle.std.specs.Prelude.{All}
use Rattle.ds_trace_scene.specs.Columns.{Follow, IsTrueSpan}
use Rattle.ds_trace_scene.proofs.Spans.{Stays}
use Rattle.ds_trace_scene.proofs.columns.spans.Given as goal

abbrev pub invariant-loop-event : goal.invariant-loop-event
invariant-loop-event l = record {
  spans : All (IsTrueSpan l.fn.first l.rows l.number l.side) l.spans.items;
  stays : Stays l.fn.first l.rows l.number l.side l.from l.word l.event;
  follow : Follow 0 l.spans.items l.from;
  before : l.from ≤ l.event;
}
