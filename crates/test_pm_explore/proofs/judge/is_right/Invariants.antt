use Rattle.std.proofs.Common.{◌<◌, ℕ}
use Rattle.pm_explore.specs.Lists.{IsAt}
use Rattle.pm_explore.specs.declared.position.Told.{Told}
use Rattle.pq.specs.declared.calls.Response.{Response}
use Rattle.test_pm_explore.specs.Judged.{IsRightAnswer}
use Rattle.test_pm_explore.proofs.judge.is_right.Given as goal

abbrev pub invariant-loop-i : goal.invariant-loop-i
invariant-loop-i l = (k : ℕ) → k < l.i → (t : Told Response) → IsAt l.x.told.items k t → IsRightAnswer l.window l.x.cells.words.items t.response
