use Rattle.std.proofs.Common.{take}
use Rattle.pm_explore.specs.Closed.{EndsAt}
use Rattle.pm_explore.proofs.schedule.replay.Given as goal

abbrev pub invariant-loop-i : goal.invariant-loop-i
invariant-loop-i g l = EndsAt g.P.Explored.structure l.setting (take l.i l.schedule) l.at
