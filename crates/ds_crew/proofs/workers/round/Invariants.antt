use Rattle.ds_formula.specs.Cells.{cell_at}
use Rattle.ds_crew.specs.Trails.{GoesOver, HasTurned}
use Rattle.ds_crew.proofs.workers.round.Given as goal

abbrev pub invariant-loop-index : goal.invariant-loop-index
invariant-loop-index g l = GoesOver (λ index. HasTurned l.process (cell_at l.sheet.layout.shape index)) l.fn.trail l.index l.trail
