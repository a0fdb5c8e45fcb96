use Rattle.std.proofs.Common.{◌≡◌, drop}
use Rattle.ds_calls.specs.Whole.{HasProcess, KeepsFree}
use Rattle.ds_recalculation.specs.Recalculations.{Ordered}
use Rattle.ds_recalculation.proofs.recalculation.work_in_order.Given as goal

abbrev pub invariant-loop-place : goal.invariant-loop-place
invariant-loop-place l = record {
  so_far : Ordered l.process l.order l.fn.world (drop l.place l.order) l.world;
  layout : l.world.sheet.layout ≡ l.fn.world.sheet.layout;
  there : HasProcess l.world l.process;
  free : KeepsFree l.process l.fn.world l.world;
}
