use Rattle.std.proofs.Common.{List, ℕ, ◌∙◌, ◌++◌, ap}
use Rattle.ds_explore.proofs.Telling.{outcomes_at}
use Rattle.ds_explore.proofs.texts.outcomes.Goals as goal

pub loop-at-preserved : goal.loop-at-preserved
loop-at-preserved c =
    outcomes_at c.args.outcomes.now c.loop-at.at c.index-outcomes-at.result c.loop-at.text.items c.in_ok-more.more.items c.extend_from_slice.new.self.items c.loop-at-test.true c.index-outcomes-at.is c.loop-at.invariant c.in_ok-more.ensures
    (c.in_ok-extend_from_slice.ensures.items ∙ ap (λ (xs : List ℕ). c.loop-at.text.items ++ xs) c.deref.ensures.value)
