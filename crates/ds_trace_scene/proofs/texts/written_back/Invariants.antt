use Rattle.std.proofs.Common.{◌≡◌, drop}
use Rattle.ds_trace_scene.specs.Texts.{written_back}
use Rattle.ds_trace_scene.proofs.texts.written_back.Given as goal

abbrev pub invariant-loop-passage : goal.invariant-loop-passage
invariant-loop-passage l = written_back l.passages l.process l.line ≡ written_back (drop l.passage-index l.passages) l.process l.line
