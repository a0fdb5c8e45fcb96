-- That a board, with the texts that it keeps, may go from thread to thread, and be shared by threads: type by type, so that no search is long.
use Rattle.std.proofs.Crossing.{crosses}
use denote.Param.Send.{IsSend, IsSync, sendable}
use denote.Param.SendFields.{declared_send, declared_sync}
use denote.Struct.Record.{declared}
use Rattle.atomic_table.proofs.send_lease.SendLease.TheSendSync.{the_send as right_send, the_sync as right_sync}
use Rattle.atomic_table.proofs.shared.Shared.TheSendSync.{the_send as table_send, the_sync as table_sync}
use Rattle.ds_formula.proofs.content.Tree.TheLaws.TheKnot.{crosses as trees}
use Rattle.ds_layout.specs.contracts.layout.Layout as Layout
use Rattle.once_cell.proofs.race.once_box.OnceBox.TheSendSync.{the_send as cell_send, the_sync as cell_sync}
use Rattle.ds_structure_shared.specs.contracts.board.KeptBoard as KeptBoard
use Rattle.ds_structure_shared.specs.contracts.kept.KeptText as KeptText
use Rattle.ds_structure_shared.specs.contracts.kept.KeptTexts as KeptTexts

text_send : IsSend KeptText.the_row
text_send = search (sendable, crosses, trees) depth 40 fits 100000

text_sync : IsSync KeptText.the_row
text_sync = search (sendable, crosses, trees) depth 40 fits 100000

kept_send : IsSend KeptTexts.the_row
kept_send = search (sendable, crosses, cell_send, text_send) depth 40

kept_sync : IsSync KeptTexts.the_row
kept_sync = search (sendable, crosses, cell_sync, text_send, text_sync) depth 40

layout_send : IsSend Layout.the_row
layout_send = search (sendable, crosses) depth 20

layout_sync : IsSync Layout.the_row
layout_sync = search (sendable, crosses) depth 20

-- a board may go to another thread
pub board_send : IsSend KeptBoard.the_row
board_send = declared_send (declared KeptBoard.struct _) (search (sendable, table_send, right_send, crosses) depth 60 fits 100000, (layout_send, (kept_send, tt)))

-- a board may be shared by threads
pub board_sync : IsSync KeptBoard.the_row
board_sync = declared_sync (declared KeptBoard.struct _) (search (sendable, table_sync, right_sync, crosses) depth 60 fits 100000, (layout_sync, (kept_sync, tt)))
