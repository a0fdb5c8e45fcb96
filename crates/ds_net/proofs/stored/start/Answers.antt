use denote.Param.Send.{sendable}
use Rattle.ds_net_connections.proofs.Crossing.{entrances_sync, service_send}
use Rattle.ds_net_floor.proofs.Crossing.{door_sync, keeping_sync}
use Rattle.ds_net.proofs.stored.start.Goals as goal

pub spawn_with-requires-send-F : goal.spawn_with-requires-send-F
spawn_with-requires-send-F g c κs within = search (sendable, door_sync, keeping_sync, entrances_sync, service_send) depth 60
