use Rattle.std.proofs.Common.{◌<◌, ℕ}
use Rattle.pm_explore.specs.Closed.{LeadsInto}
use Rattle.pm_explore.specs.declared.setting.Move.TheVariants.{Stop}
use Rattle.pm_explore.proofs.closure.stops_lead.Given as goal

abbrev pub invariant-loop-process : goal.invariant-loop-process
invariant-loop-process g l = (k : ℕ) → k < l.process → LeadsInto g.P.Explored.structure l.setting l.table.positions.items l.x (Stop k)
