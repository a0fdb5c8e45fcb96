use Rattle.std.proofs.Common.{rules, arith}
use Rattle.ds_eval.proofs.Cells.{low_half}
use Rattle.ds_eval.proofs.inputs.count_before.Goals as goal

pub loop-low-preserved-then-is_before : goal.loop-low-preserved-then-is_before
loop-low-preserved-then-is_before c = record {
  within = c.loop-low.invariant.within;
  low = omega arith;
  before = low_half _ _ c.args.cell c.requires (omega arith) (search rules);
  not_before = c.loop-low.invariant.not_before;
}
