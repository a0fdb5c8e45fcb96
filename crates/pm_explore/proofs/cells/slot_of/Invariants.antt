use Rattle.std.proofs.Common.{◌≡◌, ◌+◌, drop}
use Rattle.pm_explore.specs.Lists.{slot}
use Rattle.pm_explore.proofs.cells.slot_of.Given as goal

abbrev pub invariant-loop-i : goal.invariant-loop-i
invariant-loop-i l = slot l.window l.number ≡ l.i + slot (drop l.i l.window) l.number
