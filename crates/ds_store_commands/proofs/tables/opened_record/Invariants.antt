use Rattle.std.proofs.Common.{◌≡◌, [], take}
use Rattle.csv.specs.Records.{fields_of, partial_of}
use Rattle.ds_store_commands.specs.Exports.{FieldsOpen}
use Rattle.ds_store_commands.proofs.tables.opened_record.Given as goal

abbrev pub invariant-loop-index : goal.invariant-loop-index
invariant-loop-index l = record {
  fields : FieldsOpen (take l.index (fields_of l.record)) (fields_of l.opened);
  partial : partial_of l.opened ≡ [];
}
