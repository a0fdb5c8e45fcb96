use Rattle.std.proofs.Common.{refl, sym, subst}
use Rattle.c_handles.specs.Handles.{content}
use Rattle.ds_c.specs.Shared.{LacksCellAt}
use Rattle.ds_c.proofs.HeldSteps.{lacks_cell}
use Rattle.ds_c.proofs.seat_calls.work.Goals as goal

pub returns-in-Ok : goal.returns-in-Ok
returns-in-Ok c = content c.in-Seat.seat c.work.new.self c.in-Seat.is refl (record {
  how = c.in-Ok.ended;
  did = c.in-Ok.ensures.made;
  row_is = c.of_ended.ensures;
  seat = c.work.ensures.seat.0;
  last = c.work.ensures.seat.1;
})

pub returns-in-Err : goal.returns-in-Err
returns-in-Err c =
    let lacks = lacks_cell c.in-Seat.seat c.args.cell c.in-Err.fault c.in-Err.ensures.err.0 in
    content c.in-Seat.seat c.work.new.self c.in-Seat.is refl (subst (LacksCellAt c.args.cell c.in-Seat.seat) (sym c.of.ensures) lacks, c.in-Err.ensures.err.1)
