use Rattle.std.proofs.Common.{◌≡◌, take, map}
use Rattle.csv.specs.Records.{fields_of}
use Rattle.serde_json.specs.View.{view}
use Rattle.ds_batch.specs.Tables.{record_data}
use Rattle.ds_batch.proofs.json.table_value.Given as goal

abbrev pub invariant-loop-row : goal.invariant-loop-row
invariant-loop-row l = map view l.items.items ≡ map record_data (map fields_of (take l.row-index l.rows))
