-- That a sheet may go from thread to thread, and be shared by threads; that a pass may go from thread to thread.
use Rattle.std.proofs.Crossing.{crosses}
use denote.Param.Send.{IsSend, IsSync, sendable}
use denote.Param.SendFields.{declared_send, declared_sync}
use denote.Struct.Record.{declared}
use Rattle.atomic_table.proofs.shared.Seat.TheSendSync.{the_send as place_send}
use Rattle.ds_structure_shared.proofs.Crossing.{board_send, board_sync}
use Rattle.ds_shared.specs.contracts.pass.Pass as Pass
use Rattle.ds_shared.specs.contracts.sheet.SharedSheet as SharedSheet

-- a pass may go to another thread
pub pass_send : IsSend Pass.the_row
pass_send = search (sendable, crosses, place_send) depth 60 fits 100000

-- a shared sheet may go to another thread
pub sheet_send : IsSend SharedSheet.the_row
sheet_send = declared_send (declared SharedSheet.struct _) (board_send, tt)

-- a shared sheet may be shared by threads
pub sheet_sync : IsSync SharedSheet.the_row
sheet_sync = declared_sync (declared SharedSheet.struct _) (board_sync, tt)
