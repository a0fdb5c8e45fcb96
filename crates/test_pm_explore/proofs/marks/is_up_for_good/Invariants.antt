use Rattle.std.proofs.Common.{◌<◌, ◌≤◌, ℕ}
use Rattle.ds_words.specs.declared.words.Word.{Word}
use Rattle.pm_explore.specs.Lists.{IsAt}
use Rattle.pm_explore.specs.declared.position.Told.{Told}
use Rattle.test_pm_explore.proofs.marks.is_up_for_good.Given as goal

abbrev pub invariant-loop-i : goal.invariant-loop-i
invariant-loop-i l = (k : ℕ) → k < l.i → (t : Told ℕ) → IsAt l.x.told.items k t → (w : Word) × IsAt l.x.cells.words.items 0 w × (t.response ≤ w.persisted)
