use Rattle.ds_script_stops.proofs.play.recalculate.Goals as goal

pub in_order-requires : goal.in_order-requires
in_order-requires c = c.in_ok-order.ensures.once.below

pub returns-clause-opens : goal.returns-clause-opens
returns-clause-opens c = (c.in_ok-order.order.items, c.in_ok-order.ensures, c.in_order.ensures.remains)
