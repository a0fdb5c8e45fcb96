use Rattle.c_handles.proofs.Carried.{carried}
use Rattle.ds_c.proofs.whole.ds_c_world_work.Goals as goal

pub returns : goal.returns
returns c = carried _ c.in-Some.ensures.some.0 c.deref_mut.ensures.value c.work-told.ensures c.of.ensures c.tell.ensures
