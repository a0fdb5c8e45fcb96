-- That the words of a closed queue may go to another thread.
use Rattle.std.proofs.Common.{List, [], ◌∷◌}
use Rattle.std.specs.Prelude.{Bool, true, false}
use mir.Syntax.{Ty, ty_array}
use mir.Raw.{raw}
use base.Fml.{Fml}
use base.Shift.{Keyless}
use denote.Memory.{lone}
use denote.Param.Send.{IsSend, AllSend, owning_send, struct_send, sendable}
use denote.RattleType.{RattleType}
use denote.RawPtr.{Ptr, block_ptr, null_ptr, room_for, in_block, ◌+ₚ◌}
use denote.Struct.Owning.{shape, fields, to}
use denote.Struct.Struct.{exits_of}
use Rattle.core.specs.Mem.Slots.Ownership.{bytes_of, slot, slots}
use Rattle.core.specs.contracts.slots.Lease as Lease
use Rattle.core.specs.contracts.slots.Slots as Slots
use Rattle.std.proofs.Crossing.{crosses, frees}
use Rattle.std_alloc.proofs.SendSync.{lies, quiet}
use Rattle.std_heap.specs.contracts.Global as Heap
use Rattle.std_heap.specs.contracts.GlobalAllocator.TheImpl.{ghosts}

room : (τ : Ty) (p : Ptr) → Keyless (room_for τ p)
room τ (block_ptr b o) = tt
room τ null_ptr = tt

inside : (p : Ptr) (F : Fml) → Keyless F → Keyless (in_block p F)
inside (block_ptr b o) F k = k
inside null_ptr F k = tt

module _ (R : RattleType) (s : IsSend R) where
  slot_keyless : (f : Bool) (p : Ptr) (x : R.Denot) → Keyless (slot R f p x)
  slot_keyless true p x = lies R s p x
  slot_keyless false p x = room (raw (lone R.mir)) p

  slots_keyless : (p : Ptr) (xs : List R.Denot) (fs : List Bool) → Keyless (slots R p xs fs)
  slots_keyless p [] fs = tt
  slots_keyless p (x ∷ xs) [] = tt
  slots_keyless p (x ∷ xs) (f ∷ fs) = (slot_keyless f p x, slots_keyless (p +ₚ bytes_of R) xs fs)

  pub slots_send : IsSend (Slots.the_row R)
  slots_send =
      let O = Slots.the_type R in
      let all : AllSend (fields O) = (search sendable, (search sendable, tt)) in
      owning_send O all (λ d. (tt, inside d.ptr _ (slots_keyless d.ptr d.items d.filled)))
      (λ k. quiet (to O) (exits_of k (fields O)) ((struct_send (shape O) all).leaving k))

-- a lease of slots in memory of the heap may go to another thread, whatever they are of
pub lease_send : (R : RattleType) → IsSend (Lease.the_row R Heap.the_row ghosts)
lease_send R =
    let O = Lease.the_type R Heap.the_row ghosts in
    let all : AllSend (fields O) = (search sendable, (search sendable, (search (sendable, crosses), tt))) in
    owning_send O all (λ d. frees.frees d.alloc (raw (ty_array (lone R.mir) d.len)) d.ptr)
    (λ k. quiet (to O) (exits_of k (fields O)) ((struct_send (shape O) all).leaving k))
