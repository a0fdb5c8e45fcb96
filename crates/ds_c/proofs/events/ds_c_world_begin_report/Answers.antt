use Rattle.c_handles.proofs.Carried.{carried}
use Rattle.ds_c.proofs.events.ds_c_world_begin_report.Goals as goal

pub returns : goal.returns
returns c = carried _ c.in-Some.ensures.some.0 c.deref_mut.ensures.value c.begin_show-told.ensures c.of.ensures c.tell.ensures
