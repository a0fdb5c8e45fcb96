-- That a process with what it draws may go to a thread.
use Rattle.std.proofs.Crossing.{crosses}
use denote.Param.Send.{IsSend, sendable}
use denote.Param.SendFields.{declared_send}
use denote.Struct.Record.{declared}
use Rattle.ds_shared.proofs.Crossing.{pass_send, sheet_sync}
use Rattle.test_shared.specs.contracts.hand.Hand as Hand
use Rattle.test_shared.specs.contracts.hand.Member as Member
use Rattle.test_shared.proofs.crowd.trio.Goals as goal

hand_send : IsSend Hand.the_row
hand_send = search (sendable, crosses) depth 60 fits 100000

member_send : IsSend Member.the_row
member_send = declared_send (declared Member.struct _) (pass_send, (hand_send, tt))

pub join-requires-send-F : goal.join-requires-send-F
join-requires-send-F g c κs within = search (sendable, crosses, member_send, sheet_sync) depth 60 fits 100000
