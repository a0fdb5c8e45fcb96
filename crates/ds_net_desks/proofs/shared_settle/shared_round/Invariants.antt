use Rattle.ds_shared_seats.specs.Sheets.{IsSeatOf}
use Rattle.ds_net_desks.specs.SharedDesks.{HasWorked, sheet_of}
use Rattle.ds_net_desks.proofs.shared_settle.shared_round.Given as goal

abbrev pub invariant-loop-place : goal.invariant-loop-place
invariant-loop-place l = record {
  worked : HasWorked (sheet_of l.fn.seat) l.fn.seat l.seat;
  sheet : IsSeatOf (sheet_of l.fn.seat) l.seat;
}
