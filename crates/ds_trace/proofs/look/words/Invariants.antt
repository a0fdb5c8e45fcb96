use Rattle.std.proofs.Common.{◌≡◌, map, take}
use Rattle.ds_trace.specs.Rows.{sides_of}
use Rattle.ds_trace.proofs.look.words.Given as goal

abbrev pub invariant-loop-place : goal.invariant-loop-place
invariant-loop-place l = l.words.items ≡ map (sides_of l.world) (take l.place-index l.places)
