use Rattle.std.proofs.Common.{ap, set}
use Rattle.pm_explore.proofs.Leading.{like_cells}
use Rattle.pm_explore.proofs.position.Position.stopped_with.Goals as goal

pub returns : goal.returns
returns g c = let a = c.in_ok-next.ensures in record {
  cells = λ window m m' shows stops. c.stop.ensures window m m' (like_cells window c.args.self.now.cells c.in_ok-next.next.cells m a.cells shows) stops;
  doing = ap (λ z. set z c.args.process c.args.stopped) a.doing;
  begun = a.begun;
  told = a.told;
}
