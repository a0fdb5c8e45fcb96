-- It goes where its world may go.
use denote.Struct.Struct.{exits_of}
use denote.Struct.Owning.{shape, fields, to}
use denote.Param.Send.{IsSend, AllSend, owning_send, struct_send, sendable}
use Rattle.std_alloc.proofs.SendSync.{quiet}
use Rattle.std_heap.proofs.Global.TheSendSync as handle
use Rattle.c_handles.proofs.Crossing.{keyless}
use Rattle.ds_core.proofs.Crossing.{world_send}
use Rattle.ds_state.specs.contracts.world.World as World
use Rattle.ds_c.specs.contracts.handle.BoxedWorld.{the_row, the_type}

pub send : IsSend the_row
send =
    let all : AllSend (fields the_type) = (search sendable, (handle.the_field_send, tt)) in
    owning_send the_type all (λ d. keyless World.the_row world_send d.at d.alloc d.value)
    (λ k. quiet (to the_type) (exits_of k (fields the_type)) ((struct_send (shape the_type) all).leaving k))
