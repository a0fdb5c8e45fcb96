-- What a box owns, or none, names no thread where its value may cross.
use mir.Raw.{raw}
use base.Shift.{Keyless}
use denote.Memory.{lone}
use denote.RattleType.{RattleType}
use denote.RawPtr.{Ptr}
use denote.Param.Send.{IsSend}
use Rattle.std.specs.Global.{Global}
use Rattle.std.specs.Prelude.{Option, None, Some}
use Rattle.std.proofs.Crossing as heap
use Rattle.std_alloc.proofs.SendSync.{lies}
use Rattle.c_handles.specs.Owned.{boxed_owns}

pub keyless : (X : RattleType) → IsSend X → (p : Ptr) (a : Global) (m : Option X.Denot) → Keyless (boxed_owns X a p m)
keyless X goes p a None = tt
keyless X goes p a (Some x) = (lies X goes p x, heap.frees.frees a (raw (lone X.mir)) p)
