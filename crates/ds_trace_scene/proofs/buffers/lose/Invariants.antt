use Rattle.std.proofs.Common.{◌≡◌, ◌++◌, drop, map, take}
use Rattle.ds_trace_scene.specs.Buffers.{lost}
use Rattle.ds_trace_scene.proofs.buffers.lose.Given as goal

abbrev pub invariant-loop-number : goal.invariant-loop-number
invariant-loop-number l = l.entries.items ≡ map (lost l.by l.line) (take l.number l.fn.entries.items) ++ drop l.number l.fn.entries.items
