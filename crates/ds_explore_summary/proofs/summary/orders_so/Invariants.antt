use Rattle.std.proofs.Common.{◌≡◌}
use Rattle.std.specs.Prelude.{if◌then◌else◌, slice_get}
use Rattle.ds_explore.specs.Explored.{at_most_orders}
use Rattle.ds_explore_summary.specs.Summaries.{ends_as, orders_by, sum_below}
use Rattle.ds_explore_summary.proofs.summary.orders_so.Given as goal

abbrev pub invariant-loop-other : goal.invariant-loop-other
invariant-loop-other l = l.orders ≡ at_most_orders (sum_below (λ other. if ends_as l.outcomes l.at other then orders_by (slice_get l.outcomes other) else 0) l.other)
