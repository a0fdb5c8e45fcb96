use Rattle.std.proofs.Common.{◌<◌, ℕ}
use Rattle.pm_explore.specs.Lists.{IsAt}
use Rattle.pm_explore.specs.declared.position.Told.{Told}
use Rattle.pm_registers.specs.declared.calls.Response.{Response}
use Rattle.test_pm_explore.specs.RegisterSteps.{IsRightRecall}
use Rattle.test_pm_explore.proofs.registers.are_right_recalls.Given as goal

abbrev pub invariant-loop-i : goal.invariant-loop-i
invariant-loop-i l = (k : ℕ) → k < l.i → (t : Told Response) → IsAt l.x.told.items k t → IsRightRecall l.window l.x.cells.words.items t.process t.response
