-- That a pass with the answers of its edits may go to a thread and come back.
use Rattle.std.proofs.Crossing.{crosses}
use denote.Param.Send.{sendable}
use Rattle.ds_shared.proofs.Crossing.{pass_send, sheet_sync}
use Rattle.test_shared.proofs.pairs.race.Goals as goal

pub join-requires-send-F : goal.join-requires-send-F
join-requires-send-F g c κs within = search (sendable, crosses, pass_send, sheet_sync) depth 60 fits 100000
