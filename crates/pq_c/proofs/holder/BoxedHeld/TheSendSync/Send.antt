-- It goes where what is held may go.
use denote.Struct.Struct.{exits_of}
use denote.Struct.Owning.{shape, fields, to}
use denote.Param.Send.{IsSend, AllSend, owning_send, struct_send, sendable}
use Rattle.std_alloc.proofs.SendSync.{quiet}
use Rattle.std_heap.proofs.Global.TheSendSync as handle
use Rattle.c_handles.proofs.Crossing.{keyless}
use Rattle.pq_c.proofs.HeldCrossing.{held_send}
use Rattle.pq_c.specs.contracts.held.Held as Held
use Rattle.pq_c.specs.contracts.holder.BoxedHeld.{the_row, the_type}

pub send : IsSend the_row
send =
    let all : AllSend (fields the_type) = (search sendable, (handle.the_field_send, tt)) in
    owning_send the_type all (λ d. keyless Held.the_row held_send d.at d.alloc d.value)
    (λ k. quiet (to the_type) (exits_of k (fields the_type)) ((struct_send (shape the_type) all).leaving k))
