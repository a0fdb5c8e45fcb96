use Rattle.std.proofs.Common.{◌≡◌}
use Rattle.ds_formula.specs.Marks.{marked_below}
use Rattle.ds_formula.proofs.references.add_row.Given as goal

abbrev pub invariant-loop-place : goal.invariant-loop-place
invariant-loop-place l = l.cells.items ≡ marked_below l.marks l.place
