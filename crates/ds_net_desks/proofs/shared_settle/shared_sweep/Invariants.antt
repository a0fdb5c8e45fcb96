use Rattle.std.proofs.Common.{◌≡◌}
use Rattle.ds_formula.specs.Cells.{count_of}
use Rattle.ds_shared_seats.specs.Sheets.{IsSeatOf}
use Rattle.ds_net_desks.specs.SharedDesks.{HasWorked, sheet_of}
use Rattle.ds_net_desks.proofs.shared_settle.shared_sweep.Given as goal

abbrev pub invariant-loop-index : goal.invariant-loop-index
invariant-loop-index l = record {
  worked : HasWorked (sheet_of l.fn.seat) l.fn.seat l.seat;
  sheet : IsSeatOf (sheet_of l.fn.seat) l.seat;
  cells : l.sweep.cells ≡ count_of l.shape;
}

abbrev pub decreases-loop-index : goal.decreases-loop-index
decreases-loop-index l = l.sweep.works
