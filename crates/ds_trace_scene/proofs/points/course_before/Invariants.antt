use Rattle.std.proofs.Common.{◌≡◌}
use Rattle.ds_trace_scene.specs.Points.{course}
use Rattle.ds_trace_scene.proofs.points.course_before.Given as goal

abbrev pub invariant-loop-number : goal.invariant-loop-number
invariant-loop-number l = l.course ≡ course l.process l.trace.rows.items l.number
