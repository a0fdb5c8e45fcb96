use Rattle.std.proofs.Common.{take}
use Rattle.std.specs.Prelude.{All}
use Rattle.ds_trace.specs.Traces.{NamesWithin}
use Rattle.ds_trace.proofs.trace.are_within.Given as goal

abbrev pub invariant-loop-row : goal.invariant-loop-row
invariant-loop-row l = All (λ row. NamesWithin l.places row.what) (take l.row-index l.rows)
