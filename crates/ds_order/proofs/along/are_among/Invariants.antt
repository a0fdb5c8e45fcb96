use Rattle.std.proofs.Common.{◌≡◌, ◌<◌, ℕ, get_or}
use Rattle.ds_formula.specs.declared.cells.Cell.{Cell}
use Rattle.ds_formula.specs.Cells.{IsInside, index_of}
use Rattle.ds_order.specs.Along.{IsAmong}
use Rattle.ds_order.proofs.along.are_among.Given as goal

-- those of the references before the place that are cells of the sheet are among the cells
abbrev pub invariant-loop-at : goal.invariant-loop-at
invariant-loop-at l = (k : ℕ) (d : Cell) → k < l.at → get_or l.references k d ≡ d → IsInside l.shape d → IsAmong l.cells (index_of l.shape d)
