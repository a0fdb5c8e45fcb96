use Rattle.std.proofs.Common.{refl}
use Rattle.c_handles.specs.Handles.{content}
use Rattle.ds_c.proofs.seat_calls.recover.Goals as goal

pub returns : goal.returns
returns c = content c.in-Seat.seat c.recover.new.self c.in-Seat.is refl (record {
  how = c.recover.result;
  did = c.recover.ensures.made;
  row_is = c.of_ended.ensures;
  seat = c.recover.ensures.seat.0;
  last = c.recover.ensures.seat.1;
})
