use Rattle.c_handles.proofs.Carried.{carried}
use Rattle.ds_c.proofs.closed.ds_c_closed_crash.Goals as goal

pub returns : goal.returns
returns c = carried _ c.in-Some.ensures.some.0 c.deref_mut.ensures.value c.crash_with-told.ensures.1 c.of.ensures c.crash_with-told.ensures.2
