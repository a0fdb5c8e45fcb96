use denote.Param.Send.{IsSync, param_sync, sendable}
use Rattle.ds_net_desks.proofs.Crossing.{floor_sync}
use Rattle.ds_net.proofs.stored.serve.Lts as lts
use Rattle.ds_net.proofs.stored.serve.Goals as goal

pub serve_beside-ended-requires-sync-F : goal.serve_beside-ended-requires-sync-F
serve_beside-ended-requires-sync-F g c κs within =
    let row = lts.arg-6-2 g.row.S g.row.T g.row.A g.row.R g.S.laws g.T.laws g.A.laws g.R.laws g.S.Alter g.S.Alter-dict g.S.Store g.S.Store-dict g.T.Attendant g.T.Attendant-dict g.A.Analyst g.A.Analyst-dict g.R.Threads g.R.Threads-dict g.R.Wait g.R.Wait-dict g.R.Clock g.R.Clock-dict g.R.Log g.R.Log-dict g.S.Destruct-dict κs in
    let inside : IsSync row = search (sendable, floor_sync) depth 60 in
    param_sync 2 row inside
