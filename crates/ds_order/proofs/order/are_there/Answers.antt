use Rattle.ds_order.proofs.Ascending.{one_more}
use Rattle.ds_order.proofs.order.are_there.Goals as goal

-- src/order.rt:31:5
pub loop-cell-preserved : goal.loop-cell-preserved
loop-cell-preserved c = one_more c.args.list.now c.loop-cell.cell c.in-Some.place.now c.if-place-list.true c.if-list-place.true c.loop-cell.invariant
