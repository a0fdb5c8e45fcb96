use Rattle.std.proofs.Common.{◌≡◌, ◌*◌, ◌≤◌}
use Rattle.ds_formula.specs.Marks.{marked_below}
use Rattle.ds_formula.proofs.references.marked.Given as goal

abbrev pub invariant-loop-row : goal.invariant-loop-row
invariant-loop-row l = record {
  cells : l.cells.items ≡ marked_below l.marks (26 * l.row);
  within : l.row ≤ 64;
}
