use Rattle.std.proofs.Common.{take}
use Rattle.ds_trace.specs.Traces.{AreFirsts, names_of}
use Rattle.ds_trace.proofs.trace.places_of.Given as goal

abbrev pub invariant-loop-row : goal.invariant-loop-row
invariant-loop-row l = AreFirsts (names_of (take l.row-index l.rows)) l.places.items
