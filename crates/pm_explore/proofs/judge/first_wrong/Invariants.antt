use Rattle.std.proofs.Common.{◌<◌, ℕ}
use Rattle.pm_explore.specs.Lists.{IsAt}
use Rattle.pm_explore.proofs.judge.first_wrong.Given as goal

abbrev pub invariant-loop-i : goal.invariant-loop-i
invariant-loop-i g l = (k : ℕ) (x : _) → k < l.i → IsAt l.table.positions.items k x → g.J.Judge.meaning l.judge l.setting x
