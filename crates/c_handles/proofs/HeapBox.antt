-- A box in memory of the heap, and the arguments of the functions that make and unmake it.
use mathlib.Core.List.{[], ◌∷◌}
use mir.Syntax.{Args, impl, a_type, tnil, dnil}
use denote.Param.{bounded}
use denote.Param.Laws.{Laws}
use denote.RattleType.{RattleType}
use denote.Signature.{Slot, plain}
use Rattle.std_alloc.proofs.BoxSteps.Form.{Bx, R}
use Rattle.std_heap.specs.contracts.Global as Heap
use Rattle.std_heap.specs.contracts.GlobalAllocator.TheImpl.{ghosts, dict}
use Rattle.std_heap.proofs.Global.TheLaws as heap
use Rattle.c_handles.specs.contracts.boxed.Boxed as Boxed
use Rattle.c_handles.specs.contracts.parts.Parts as Parts

-- a box of a value of this type
abbrev pub heap_box : (X : RattleType) → Laws X → Bx
heap_box X laws = record { row = X; laws = laws; al = record { row = Heap.the_row; laws = heap.the_row_laws; g = ghosts; d = dict; drops = impl [] tnil dnil } }

-- what a call passes for the type of the value, of which nothing is asked
abbrev pub one_type : RattleType → Args
one_type X = bounded (a_type ∷ []) (X, tt) dnil

-- the argument of `of_parts`: the parts of a box
abbrev pub FromParts : Bx → Slot 1
FromParts E = plain (λ _. Parts.the_row (R E) Heap.the_row ghosts)

-- the argument of `into_parts`: a value in a box, or none
abbrev pub FromBoxed : Bx → Slot 1
FromBoxed E = plain (λ _. Boxed.the_row (R E))

-- the argument of `empty`: the allocator of the heap
abbrev pub FromHeap : Slot 1
FromHeap = plain (λ _. Heap.the_row)
