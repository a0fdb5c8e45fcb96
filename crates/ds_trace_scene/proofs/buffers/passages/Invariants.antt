use Rattle.ds_trace_scene.proofs.Buffered.{AreGoing}
use Rattle.ds_trace_scene.proofs.buffers.passages.Given as goal

abbrev pub invariant-loop-event : goal.invariant-loop-event
invariant-loop-event l = AreGoing l.trace.rows.items l.event l.last l.entries.items
