use Rattle.c_handles.proofs.Carried.{carried}
use Rattle.ds_c.proofs.seats.ds_c_seat_edit.Goals as goal

pub returns : goal.returns
returns c = carried _ c.in-Some.ensures.some.0 c.deref_mut.ensures.value c.edit-told.ensures c.of.ensures c.tell.ensures
