use Rattle.std.proofs.Common.{◌≡◌, ◌≢◌, ◌%◌, ℕ, arith}
use Rattle.ds_words.specs.declared.words.Word.{Word}
use Rattle.pm_explore.proofs.Closing.{more_below}
use Rattle.test_pm_explore.specs.Judged.{IsWord}
use Rattle.test_pm_explore.proofs.judge.is_named_by_none.Goals as goal

pub loop-k-preserved : goal.loop-k-preserved
loop-k-preserved c = more_below (λ j. (n : ℕ) (w : Word) → IsWord c.args.window.now c.args.words.now j n w → n % 8 ≡ c.args.part → w.cached ≢ c.args.operation) c.loop-k.k c.loop-k.invariant (c.is_other-other.ensures c.if-not-other.false)

pub returns : goal.returns
returns c = λ _ k n w word. let low = word.number.low in c.loop-k.invariant k (omega (arith, low, c.loop-k-test.false)) n w word
