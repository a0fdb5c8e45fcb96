use Rattle.ds_explore.proofs.Telling.{orders_at}
use Rattle.ds_explore.proofs.texts.orders_of.Goals as goal

pub loop-at-preserved : goal.loop-at-preserved
loop-at-preserved c =
    orders_at c.args.outcomes.now c.loop-at.at c.index-outcomes-at.result c.loop-at.orders c.saturating_add-orders.result c.loop-at-test.true c.index-outcomes-at.is c.loop-at.invariant c.saturating_add-orders.ensures
