-- That a pass beside its sheet may go to a thread, and that threads may share what they measure by.
use Rattle.std.proofs.Crossing.{crosses}
use denote.Param.Send.{IsSend, IsSync, sendable}
use Rattle.atomic_table.proofs.shared.Seat.TheSendSync.{the_send as place_send}
use Rattle.ds_shared.proofs.Crossing.{sheet_send, sheet_sync}
use Rattle.bench_threads.specs.contracts.round.Round as Round
use Rattle.bench_threads.specs.contracts.shared.Runner as Runner
use Rattle.bench_threads.specs.contracts.shared.Seat as Seat
use Rattle.bench_threads.proofs.shared.measure.Goals as goal

seat_send : IsSend Seat.the_row
seat_send = search (sendable, crosses, sheet_send, sheet_sync, place_send) depth 60 fits 100000

runner_send : IsSend Runner.the_row
runner_send = search (sendable, crosses, seat_send) depth 40 fits 100000

round_sync : IsSync Round.the_row
round_sync = search (sendable, crosses) depth 60 fits 100000

pub map_vec-requires-send-J : goal.map_vec-requires-send-J
map_vec-requires-send-J g c κs within = search (sendable, crosses, runner_send, round_sync) depth 40
