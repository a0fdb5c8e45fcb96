use Rattle.std.proofs.Common.{◌<◌, ◌≡◌, ◌≢◌, ◌%◌, ℕ}
use Rattle.ds_words.specs.declared.words.Word.{Word}
use Rattle.test_pm_explore.specs.Judged.{IsWord}
use Rattle.test_pm_explore.proofs.judge.is_named_by_none.Given as goal

abbrev pub invariant-loop-k : goal.invariant-loop-k
invariant-loop-k l = (j : ℕ) → j < l.k → (n : ℕ) (w : Word) → IsWord l.window l.words j n w → n % 8 ≡ l.part → w.cached ≢ l.operation
