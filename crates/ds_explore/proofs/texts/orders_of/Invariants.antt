use Rattle.std.proofs.Common.{◌≡◌, take}
use Rattle.ds_explore.specs.Explored.{at_most_orders, orders_to}
use Rattle.ds_explore.proofs.texts.orders_of.Given as goal

abbrev pub invariant-loop-at : goal.invariant-loop-at
invariant-loop-at l = l.orders ≡ at_most_orders (orders_to (take l.at l.outcomes))
