use Rattle.std.proofs.Common.{◌≡◌, ◌++◌, length}
use Rattle.ds_trace_scene.specs.Texts.{one_line}
use Rattle.ds_trace_scene.proofs.texts.put_one_line.Given as goal

abbrev pub invariant-loop-rest : goal.invariant-loop-rest
invariant-loop-rest l = l.line.items ++ one_line l.rest ≡ l.fn.line.items ++ one_line l.answer

abbrev pub decreases-loop-rest : goal.decreases-loop-rest
decreases-loop-rest l = length l.rest
