use Rattle.std.proofs.Common.{◌≡◌, ◌-◌, ◌++◌, map}
use Rattle.serde_json.specs.View.{view}
use Rattle.ds_server.specs.SessionTexts.{row_data, rows_of}
use Rattle.ds_script_json.proofs.values.rows_value.Given as goal

abbrev pub invariant-loop-row : goal.invariant-loop-row
invariant-loop-row l = map view l.rows.items ++ map row_data (rows_of l.shape.columns (l.shape.rows - l.row) l.rest) ≡ map row_data (rows_of l.shape.columns l.shape.rows l.values)
