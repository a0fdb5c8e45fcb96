use Rattle.c_handles.proofs.Carried.{looked}
use Rattle.ds_c.proofs.shown.ds_c_world_value.Goals as goal

pub returns : goal.returns
returns c = looked _ c.in-Some.ensures.some.0 c.deref.ensures c.value-told.ensures c.of.ensures c.tell.ensures
