use Rattle.std.proofs.Common.{◌≡◌, ◌≤◌, map, take}
use Rattle.ds_formula.specs.Cells.{count_of}
use Rattle.ds_work.specs.Reading.{unseen}
use Rattle.ds_work.proofs.reading.fill.Given as goal

abbrev pub invariant-loop-cell : goal.invariant-loop-cell
invariant-loop-cell l = (l.inputs.items ≡ map unseen (take l.cell-index l.cells)) × (count_of l.fn.shape ≤ l.inputs.room)
