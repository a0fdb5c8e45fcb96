use Rattle.std.specs.Prelude.{if◌then◌else◌, slice_get}
use Rattle.ds_explore_summary.specs.Summaries.{ends_as, orders_by}
use Rattle.ds_explore_summary.proofs.Endings.{orders_more}
use Rattle.ds_explore_summary.proofs.summary.orders_so.Goals as goal

pub loop-other-preserved : goal.loop-other-preserved
loop-other-preserved c =
    orders_more (λ other. if ends_as c.args.outcomes.now c.args.at other then orders_by (slice_get c.args.outcomes.now other) else 0) c.loop-other.other c.loop-other.orders c.orders_with.result c.saturating_add-orders.result c.loop-other.invariant c.orders_with.ensures
    c.saturating_add-orders.ensures
