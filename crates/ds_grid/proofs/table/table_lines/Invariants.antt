use Rattle.std.proofs.Common.{◌≡◌, ◌*◌, ◌++◌, drop, map}
use Rattle.csv.specs.Records.{fields_of}
use Rattle.ds_script_io.specs.Csv.{IsReady, text_of}
use Rattle.ds_grid.specs.Labels.{table_text}
use Rattle.ds_grid.proofs.table.table_lines.Given as goal

abbrev pub invariant-loop-row : goal.invariant-loop-row
invariant-loop-row l = record {
  ready : IsReady l.writer;
  whole : text_of l.writer ++ table_text l.form l.shape.columns (drop l.row (map fields_of l.records)) (drop (l.row * l.shape.columns) l.values) ≡ table_text l.form l.shape.columns (map fields_of l.records) l.values;
}
