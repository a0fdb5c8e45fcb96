use Rattle.std.proofs.Common.{sym}
use Rattle.csv.specs.Records.{fields_of}
use Rattle.ds_grid.proofs.Fields.{no_field, some_field}
use Rattle.ds_store_commands.proofs.tables.field_of.Goals as goal

pub returns-in-Some : goal.returns-in-Some
returns-in-Some c = sym (some_field (fields_of c.args.record.now) c.args.index c.in-Some.field.now c.in-Some.ensures.value)

pub returns-in-None : goal.returns-in-None
returns-in-None c = sym (no_field (fields_of c.args.record.now) c.args.index c.in-None.ensures.value)
