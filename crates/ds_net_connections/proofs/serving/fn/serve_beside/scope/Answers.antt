use denote.Param.Send.{sendable}
use Rattle.ds_net_connections.proofs.Crossing.{entrances_sync}
use Rattle.ds_net_floor.proofs.Crossing.{door_sync, flag_sync}
use Rattle.ds_net_connections.proofs.serving.fn.serve_beside.scope.Goals as goal

pub spawn-requires-send-F : goal.spawn-requires-send-F
spawn-requires-send-F g c κs within = search (sendable, flag_sync) depth 40

pub spawn-beside-requires-send-F : goal.spawn-beside-requires-send-F
spawn-beside-requires-send-F g c κs within = search (sendable, door_sync, entrances_sync) depth 60
