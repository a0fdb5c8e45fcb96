use Rattle.std.proofs.Common.{◌≡◌, [], take}
use Rattle.csv.specs.Records.{fields_of, partial_of}
use Rattle.ds_grid.specs.Labels.{shown_fields}
use Rattle.ds_grid.proofs.table.shown_record.Given as goal

abbrev pub invariant-loop-column : goal.invariant-loop-column
invariant-loop-column l = record {
  fields : fields_of l.row ≡ shown_fields l.form (take l.column (fields_of l.given)) (take l.column l.values);
  partial : partial_of l.row ≡ [];
}
