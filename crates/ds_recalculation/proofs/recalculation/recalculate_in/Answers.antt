use Rattle.std.proofs.Common.{inr}
use Rattle.ds_recalculation.proofs.recalculation.recalculate_in.Goals as goal

pub returns-in-None-clause-ends : goal.returns-in-None-clause-ends
returns-in-None-clause-ends c = inr (record {
  mid = c.work_in_order.new.world;
  all = c.in-None.ensures.goes;
  settling = c.settle.ensures.settles;
})
