use Rattle.std.proofs.Common.{◌∙◌, ap, sym, arith, map, length, drop, List, ℕ, ◌≡◌, ◌<◌, ◌+◌, ◌*◌, ◌++◌, []}
use Rattle.std.proofs.lemmas.List.{length-map}
use Rattle.std.specs.Prelude.{slice_index_or}
use Rattle.csv.specs.Records.{Row, fields_of}
use Rattle.ds_script_io.specs.Csv.{text_of}
use Rattle.ds_grid.specs.Labels.{table_text}
use Rattle.ds_grid.proofs.Fields.{row_at}
use Rattle.ds_grid.proofs.Tables.{own_values, row_width, table_more}
use Rattle.ds_grid.proofs.table.table_lines.Goals as goal

pub shown_record-requires : goal.shown_record-requires
shown_record-requires c =
    row_width c.args.records.now c.args.shape.now c.loop-row.row c.index-records-row.result c.requires.grid c.loop-row-test.true c.index-records-row.is
    ∙ sym (own_values c.args.shape.now.columns c.args.shape.now.rows c.loop-row.row c.args.values.now c.requires.values c.loop-row-test.true)

pub loop-row-preserved : goal.loop-row-preserved
loop-row-preserved c =
    let rows : List (List (List ℕ)) = map fields_of c.args.records.now in
    let columns = c.args.shape.now.columns in
    let row = c.loop-row.row in
    let inside : row < length rows = omega (arith, c.loop-row-test.true, c.requires.grid.rows_are) in
    let below : row < length c.args.records.now = omega (arith, inside, length-map c.args.records.now fields_of) in
    let at : fields_of c.index-records-row.result ≡ slice_index_or rows row [] =
    ap (λ (r : Row). fields_of r) c.index-records-row.is ∙ sym (row_at c.args.records.now row c.index-records-row.result below) in
    record {
      ready = c.in_ok-add_record.ensures.ready;
      whole =
          ap (λ (t : List ℕ). t ++ table_text c.args.form columns (drop (row + 1) rows) (drop ((row + 1) * columns) c.args.values.now)) c.in_ok-add_record.ensures.text
          ∙ table_more c.args.form columns row rows c.args.values.now (text_of c.loop-row.writer) _ _ _ inside at c.loop-row.invariant.whole c.in_ok-shown.ensures;
    }
