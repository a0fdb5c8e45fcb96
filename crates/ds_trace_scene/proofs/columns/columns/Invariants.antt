use Rattle.ds_trace_scene.specs.Columns.{AreColumns}
use Rattle.ds_trace_scene.proofs.columns.columns.Given as goal

abbrev pub invariant-loop-number : goal.invariant-loop-number
invariant-loop-number l = AreColumns l.trace l.number l.columns.items
