use Rattle.std.proofs.Common.{◌<◌, ℕ}
use Rattle.pm_explore.specs.Closed.{StaysIn}
use Rattle.pm_explore.specs.Lists.{IsAt}
use Rattle.pm_explore.proofs.closure.is_closed.Given as goal

abbrev pub invariant-loop-i : goal.invariant-loop-i
invariant-loop-i g l = (k : ℕ) (x : _) → k < l.i → IsAt l.table.positions.items k x → StaysIn g.P.Explored.structure l.setting l.table.positions.items x
