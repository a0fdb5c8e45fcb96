use Rattle.std.proofs.Common.{◌≡◌, [], drop, string_bytes}
use Rattle.ds_trace_scene.specs.Points.{names_after}
use Rattle.ds_trace_scene.proofs.points.names.Given as goal

abbrev pub invariant-loop-point : goal.invariant-loop-point
invariant-loop-point l = names_after (string_bytes l.names) (drop l.point-index l.points) ≡ names_after [] l.points
