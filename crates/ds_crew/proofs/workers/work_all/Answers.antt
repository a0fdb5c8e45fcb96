-- That passes may cross threads, and that threads may share the closure that they run.
use Rattle.std.proofs.Crossing.{crosses}
use denote.Param.Send.{IsSync, param_sync, sendable}
use Rattle.std.specs.contracts.alloc.Global as Global
use Rattle.ds_crew.proofs.Crossing.{sheet_sync, pass_send}
use Rattle.ds_crew.proofs.workers.work_all.Lts as lts
use Rattle.ds_crew.proofs.workers.work_all.Goals as goal

global_sync : IsSync Global.the_row
global_sync = search (sendable, crosses) depth 20

pub for_each_mut-requires-send-T : goal.for_each_mut-requires-send-T
for_each_mut-requires-send-T g c κs within = search (sendable, crosses, pass_send) depth 40

pub for_each_mut-requires-sync-F : goal.for_each_mut-requires-sync-F
for_each_mut-requires-sync-F g c κs within =
    let row = lts.arg-1-2 g.row.L g.row.M g.row.G g.row.R g.L.laws g.M.laws g.G.laws g.R.laws g.L.Ledger g.L.Ledger-dict g.M.Ledger g.M.Ledger-dict g.G.Gate g.G.Gate-dict g.R.Threads g.R.Threads-dict g.R.Wait g.R.Wait-dict κs in
    let inside : IsSync row = search (sendable, sheet_sync, global_sync) depth 60 in
    param_sync 2 row inside
