-- That a pass with its tally may cross threads, and that threads may share the closure that they run.
use Rattle.std.proofs.Crossing.{crosses}
use denote.Param.Send.{IsSend, IsSync, sendable}
use denote.RattleType.{RattleType}
use Rattle.std.specs.contracts.alloc.Global as Global
use Rattle.std.specs.declared.sync.ledger.Ledger.{Ghosts}
use Rattle.ds_crew.proofs.Crossing.{sheet_sync, pass_send}
use Rattle.bench_threads.specs.contracts.locked.Runner as Runner
use Rattle.bench_threads.specs.contracts.round.Round as Round
use Rattle.bench_threads.proofs.locked.run_all.Goals as goal

global_sync : IsSync Global.the_row
global_sync = search (sendable, crosses) depth 20

round_sync : IsSync Round.the_row
round_sync = search (sendable, crosses) depth 60 fits 100000

module _ (L M : RattleType) (l : Ghosts L.Denot) (m : Ghosts M.Denot) where
  runner_send : IsSend (Runner.the_row L M l m)
  runner_send = search (sendable, crosses, pass_send) depth 40

pub for_each_mut-requires-send-T : goal.for_each_mut-requires-send-T
for_each_mut-requires-send-T g c = search (sendable, crosses, runner_send) depth 40

pub for_each_mut-requires-sync-F : goal.for_each_mut-requires-sync-F
for_each_mut-requires-sync-F g c κs within = search (sendable, sheet_sync, round_sync, global_sync) depth 60
