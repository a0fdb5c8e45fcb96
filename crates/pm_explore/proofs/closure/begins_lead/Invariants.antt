use Rattle.std.proofs.Common.{◌<◌, ℕ}
use Rattle.pm_explore.specs.Closed.{LeadsInto}
use Rattle.pm_explore.specs.declared.setting.Move.TheVariants.{Begin}
use Rattle.pm_explore.proofs.closure.begins_lead.Given as goal

abbrev pub invariant-loop-i : goal.invariant-loop-i
invariant-loop-i g l = (k : ℕ) → k < l.i → LeadsInto g.P.Explored.structure l.setting l.table.positions.items l.x (Begin k)
