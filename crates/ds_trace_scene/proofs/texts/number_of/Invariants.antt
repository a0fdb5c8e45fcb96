use Rattle.std.proofs.Common.{take}
use Rattle.std.specs.Prelude.{◌≢◌, All}
use Rattle.ds_trace_scene.proofs.texts.number_of.Given as goal

abbrev pub invariant-loop-number : goal.invariant-loop-number
invariant-loop-number l = All (λ other. other ≢ l.place) (take l.number l.trace.places.items)
