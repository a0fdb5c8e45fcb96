use Rattle.std.proofs.Common.{◌≡◌, map, take}
use Rattle.ds_formula.specs.Cells.{index_of}
use Rattle.ds_edit.proofs.begin.numbers.Given as goal

abbrev pub invariant-loop-cell : goal.invariant-loop-cell
invariant-loop-cell l = l.numbers.items ≡ map (index_of l.shape) (take l.cell-index l.cell-items)
