-- That a sheet, a seat and a closed sheet may go from thread to thread: type by type, so that no search is long.
use Rattle.std.proofs.Crossing.{crosses}
use denote.Param.Send.{IsSend, sendable}
use Rattle.atomic_table.proofs.shared.Seat.TheSendSync.{the_send as place_send}
use Rattle.rtrb.proofs.end.End.TheSendSync.{the_send as end_send}
use Rattle.ds_shared_seats.proofs.Closing.{slots_send, lease_send}
use Rattle.ds_shared.proofs.Crossing.{pass_send, sheet_send as shared_send, sheet_sync as shared_sync}
use Rattle.ds_shared_seats.specs.contracts.resting.RestingSheet as RestingSheet
use Rattle.ds_shared_seats.specs.contracts.ring.Home as Home
use Rattle.ds_shared_seats.specs.contracts.seat.Seat as Seat
use Rattle.ds_shared_seats.specs.contracts.sheet.OpenSheet as OpenSheet

home_send : IsSend Home.the_row
home_send = search (sendable, crosses, end_send, pass_send) depth 60 fits 100000

-- an open sheet may go to another thread
pub sheet_send : IsSend OpenSheet.the_row
sheet_send = search (sendable, crosses, shared_send, shared_sync, place_send, home_send) depth 60 fits 100000

-- a seat may go to another thread
pub seat_send : IsSend Seat.the_row
seat_send = search (sendable, crosses, shared_send, shared_sync, place_send, end_send) depth 60 fits 100000

-- a sheet at rest may go to another thread
pub closed_send : IsSend RestingSheet.the_row
closed_send = search (sendable, crosses, place_send, slots_send, lease_send) depth 60 fits 100000
