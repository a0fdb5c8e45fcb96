use Rattle.csv.specs.Records.{fields_of}
use Rattle.ds_grid.proofs.Tables.{shown_more}
use Rattle.ds_grid.proofs.table.shown_record.Goals as goal

pub loop-column-preserved : goal.loop-column-preserved
loop-column-preserved c = record {
  fields =
      shown_more c.args.form (fields_of c.args.given.now) c.args.values.now c.loop-column.column _ _ _ _ c.loop-column-test.true c.requires
      c.in_ok-add_shown.ensures.fields c.field.ensures c.loop-column.invariant.fields;
  partial = c.in_ok-add_shown.ensures.partial;
}
