use Rattle.std.proofs.Common.{◌≡◌}
use Rattle.std.specs.List.{AllZip}
use Rattle.ds_trace_scene.specs.Lanes.{IsEntryOf, lane_below}
use Rattle.ds_trace_scene.specs.Points.{course}
use Rattle.ds_trace_scene.proofs.lanes.entries.Given as goal

abbrev pub invariant-loop-event : goal.invariant-loop-event
invariant-loop-event l = record {
  entries : AllZip (IsEntryOf l.trace l.passages l.process) (lane_below l.process l.trace.rows.items l.event) l.entries.items;
  course : l.course ≡ course l.process l.trace.rows.items l.event;
}
