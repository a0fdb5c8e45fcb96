use Rattle.std.proofs.Common.{refl}
use Rattle.c_handles.specs.Handles.{content}
use Rattle.ds_c.proofs.seat_calls.report.Goals as goal

pub returns : goal.returns
returns c = content c.in-Seat.seat c.show.new.self c.in-Seat.is refl (record {
  how = c.show.result;
  values = c.show.ensures.made.0;
  did = c.show.ensures.made.1;
  row_is = c.of_ended.ensures;
  seat = c.show.ensures.seat;
  last = c.show.ensures.made.2;
})
