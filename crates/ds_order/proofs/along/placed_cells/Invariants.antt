use Rattle.ds_eval.specs.SheetContents.{contents_of}
use Rattle.ds_order.specs.Along.{ArePlaced}
use Rattle.ds_order.proofs.along.placed_cells.Given as goal

abbrev pub invariant-loop-place : goal.invariant-loop-place
invariant-loop-place l = ArePlaced l.sheet.shape (contents_of l.sheet) l.order l.place l.cells.items
