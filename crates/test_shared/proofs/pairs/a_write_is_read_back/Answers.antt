-- That a pass with the answers of its edits may come back from a thread.
use Rattle.std.proofs.Crossing.{crosses}
use denote.Param.Send.{sendable}
use Rattle.ds_shared.proofs.Crossing.{pass_send, sheet_sync}
use Rattle.test_shared.proofs.pairs.a_write_is_read_back.Goals as goal

pub join-first-requires-send-F : goal.join-first-requires-send-F
join-first-requires-send-F g c κs within = search (sendable, crosses, pass_send, sheet_sync) depth 60 fits 100000
