use Rattle.std.proofs.Common.{◌∙◌, sym}
use Rattle.ds_grid.proofs.Fields.{even_more}
use Rattle.ds_grid.proofs.grid.shape_of.Goals as goal

pub loop-record-preserved : goal.loop-record-preserved
loop-record-preserved c = record {
  even = even_more c.args.records.now c.loop-record.record-index c.len-columns.result c.record-item.result c.loop-record-test.true c.record-item.is (sym c.len.ensures ∙ c.if-len-columns.false) c.loop-record.invariant.even;
  first = c.loop-record.invariant.first;
  some = c.loop-record.invariant.some;
}
