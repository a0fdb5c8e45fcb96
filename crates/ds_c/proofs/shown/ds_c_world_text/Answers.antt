use Rattle.c_handles.proofs.Carried.{looked}
use Rattle.ds_c.proofs.shown.ds_c_world_text.Goals as goal

pub returns : goal.returns
returns c = looked _ c.in-Some.ensures.some.0 c.deref.ensures c.hand_text-told.ensures.1 c.of.ensures c.hand_text-told.ensures.2
