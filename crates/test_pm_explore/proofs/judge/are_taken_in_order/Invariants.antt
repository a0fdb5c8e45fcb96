use Rattle.std.proofs.Common.{◌<◌, ◌≡◌, ◌≢◌, ◌%◌, ◌/◌, ◌⊎◌, ℕ}
use Rattle.ds_words.specs.declared.words.Word.{Word}
use Rattle.test_pm_explore.specs.Judged.{IsWord, IsTaken}
use Rattle.test_pm_explore.proofs.judge.are_taken_in_order.Given as goal

abbrev pub invariant-loop-k : goal.invariant-loop-k
invariant-loop-k l = (j : ℕ) → j < l.k → (n : ℕ) (w : Word) → IsWord l.window l.words j n w → n % 8 ≡ 0 → w.cached ≢ 0 → IsTaken l.window l.words w.cached → (n ≡ 0) ⊎ IsTaken l.window l.words (n / 8)
