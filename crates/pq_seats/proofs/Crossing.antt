-- That a queue, a seat and a closed queue may go from thread to thread: type by type, so that no search is long.
use Rattle.std.proofs.Crossing.{crosses}
use denote.Param.Send.{IsSend, sendable}
use Rattle.atomic_table.proofs.send_lease.SendLease.TheSendSync.{the_send as right_send, the_sync as right_sync}
use Rattle.atomic_table.proofs.shared.Seat.TheSendSync.{the_send as place_send}
use Rattle.atomic_table.proofs.shared.Shared.TheSendSync.{the_send as table_send, the_sync as table_sync}
use Rattle.rtrb.proofs.end.End.TheSendSync.{the_send as end_send}
use Rattle.pq_seats.specs.contracts.pass.Pass as Pass
use Rattle.pq_seats.specs.contracts.ring.Home as Home
use Rattle.pq_seats.specs.contracts.seat.Seat as Seat
use Rattle.pq_seats.specs.contracts.queue.OpenQueue as OpenQueue
use Rattle.pq_seats.specs.contracts.resting.RestingQueue as RestingQueue
use Rattle.pq_seats.proofs.Closing.{slots_send, lease_send}

pass_send : IsSend Pass.the_row
pass_send = search (sendable, crosses, place_send) depth 60 fits 100000

home_send : IsSend Home.the_row
home_send = search (sendable, crosses, end_send, pass_send) depth 60 fits 100000

-- an open queue may go to another thread
pub queue_send : IsSend OpenQueue.the_row
queue_send = search (sendable, crosses, table_send, table_sync, right_send, right_sync, place_send, home_send) depth 60 fits 100000

-- a seat may go to another thread
pub seat_send : IsSend Seat.the_row
seat_send = search (sendable, crosses, table_send, table_sync, right_send, right_sync, place_send, pass_send, end_send) depth 60 fits 100000

-- a closed queue may go to another thread
pub closed_send : IsSend RestingQueue.the_row
closed_send = search (sendable, crosses, place_send, slots_send, lease_send) depth 60 fits 100000
