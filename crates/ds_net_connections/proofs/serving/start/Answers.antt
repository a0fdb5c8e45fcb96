use denote.Param.Send.{sendable}
use Rattle.ds_net_connections.proofs.Crossing.{protocol_send, stream_send}
use Rattle.ds_net_floor.proofs.Crossing.{door_sync}
use Rattle.ds_net_connections.proofs.serving.start.Goals as goal

pub spawn-requires-send-F : goal.spawn-requires-send-F
spawn-requires-send-F g c κs within = search (sendable, door_sync, protocol_send, stream_send) depth 40
