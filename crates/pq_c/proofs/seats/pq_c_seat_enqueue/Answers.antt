use Rattle.c_handles.proofs.Carried.{carried}
use Rattle.pq_c.proofs.seats.pq_c_seat_enqueue.Goals as goal

pub returns : goal.returns
returns c = carried _ c.in-Some.ensures.some.0 c.deref_mut.ensures.value c.enqueue-answered.ensures c.of.ensures c.tell.ensures
