use Rattle.std.proofs.Common.{rules}
use Rattle.pm_explore.specs.Changes.{SameCells}
use Rattle.pm_explore.proofs.Leading.{like_cells}
use Rattle.pm_explore.proofs.position.Position.crashed_with.Goals as goal

pub returns : goal.returns
returns g c = let same : SameCells c.args.self.now.cells c.in_ok-cells.cells = record { words = c.in_ok-cells.ensures.0; buffers = c.in_ok-cells.ensures.1 } in record {
  cells = λ window m m' shows s. c.crash.ensures window m m' (like_cells window c.args.self.now.cells c.in_ok-cells.cells m same shows) s;
  doing = search rules;
  begun = search rules;
  told = search rules;
}
