use Rattle.std.proofs.Common.{refl}
use Rattle.ds_explore.proofs.Telling.{any_at}
use Rattle.ds_explore.proofs.texts.is_any_wrong.Goals as goal

pub loop-at-preserved : goal.loop-at-preserved
loop-at-preserved c = any_at c.args.outcomes.now c.loop-at.at c.index-outcomes-at.result c.loop-at.wrong c.is_wrong-wrong.result _ c.loop-at-test.true c.index-outcomes-at.is c.loop-at.invariant c.is_wrong-wrong.ensures refl
