use Rattle.std.proofs.Common.{◌<◌, ℕ}
use Rattle.pm_explore.specs.Closed.{LeadsInto}
use Rattle.pm_explore.specs.Lists.{IsAt}
use Rattle.pm_explore.specs.declared.setting.Move.TheVariants.{Evict}
use Rattle.pm_explore.proofs.closure.evicts_lead.Given as goal

abbrev pub invariant-loop-k : goal.invariant-loop-k
invariant-loop-k g l = (j n : ℕ) → j < l.k → IsAt l.setting.window.items j n → LeadsInto g.P.Explored.structure l.setting l.table.positions.items l.x (Evict n)
