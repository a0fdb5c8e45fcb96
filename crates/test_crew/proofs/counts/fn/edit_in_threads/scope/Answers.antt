-- That a pass with its receipts may cross threads.
use Rattle.std.proofs.Crossing.{crosses}
use denote.Param.Send.{IsSend, sendable}
use denote.RattleType.{RattleType}
use Rattle.std.specs.declared.sync.ledger.Ledger.{Ghosts}
use Rattle.ds_crew.proofs.Crossing.{sheet_sync, pass_send}
use Rattle.ds_crew.specs.contracts.ended.Receipt as Receipt
use Rattle.test_crew.specs.contracts.counts.Edits as Edits
use Rattle.test_crew.proofs.counts.fn.edit_in_threads.scope.Goals as goal

receipt_send : IsSend Receipt.the_row
receipt_send = search (sendable, crosses) depth 40

module _ (L M : RattleType) (l : Ghosts L.Denot) (m : Ghosts M.Denot) where
  edits_send : IsSend (Edits.the_row L M l m)
  edits_send = search (sendable, crosses, pass_send, receipt_send) depth 40

pub spawn-requires-send-F : goal.spawn-requires-send-F
spawn-requires-send-F g c κs within = search (sendable, crosses, sheet_sync, edits_send) depth 40
