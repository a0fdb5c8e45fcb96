-- That what takes connections may be shared by threads, and that a connection may move to one.
use Rattle.std.proofs.Crossing.{crosses}
use denote.Param.Send.{IsSend, IsSync, sendable}
use Rattle.std.specs.contracts.net.tcp.TcpListener as TcpListener
use Rattle.std.specs.contracts.net.tcp.TcpStream as TcpStream
use Rattle.ds_net_connections.specs.contracts.entrance.Entrance as Entrance
use Rattle.ds_net_connections.specs.contracts.entrance.Entrances as Entrances
use Rattle.ds_net_connections.specs.contracts.entrance.Protocol as Protocol
use Rattle.ds_net_connections.specs.contracts.serving.Service as Service

-- a connection may go to another thread
pub stream_send : IsSend TcpStream.the_row
stream_send = search (sendable, crosses) depth 40

-- a listener may be shared by threads
pub listener_sync : IsSync TcpListener.the_row
listener_sync = search (sendable, crosses) depth 40

-- what the clients of a listener speak may go to another thread
pub protocol_send : IsSend Protocol.the_row
protocol_send = search (sendable, crosses) depth 40

entrance_sync : IsSync Entrance.the_row
entrance_sync = search (sendable, crosses) depth 60

-- where connections come in may be shared by threads
pub entrances_sync : IsSync Entrances.the_row
entrances_sync = search (sendable, crosses, entrance_sync) depth 60

-- what a server is asked to serve may go to another thread
pub service_send : IsSend Service.the_row
service_send = search (sendable, crosses) depth 40
