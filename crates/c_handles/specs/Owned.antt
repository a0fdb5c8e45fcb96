-- What is owned beside a pointer that names no type.
use base.Fml.{Fml, ftrue}
use denote.RattleType.{RattleType}
use denote.RawPtr.{Ptr}
use Rattle.std.specs.Prelude.{Option, None, Some}
use Rattle.std.specs.Box.Ownership.{box_owns}
use Rattle.std.specs.Global.{Global}
use Rattle.std_heap.specs.contracts.GlobalAllocator.TheImpl.{ghosts}

-- the memory of a box of this value, of a type with this row, where there is one
abbrev pub boxed_owns : (R : RattleType) → Global → Ptr → Option R.Denot → Fml
boxed_owns R alloc p None = ftrue
boxed_owns R alloc p (Some value) = box_owns (ghosts.dealloc_token alloc) R p value
