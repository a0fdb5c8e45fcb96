use Rattle.std.proofs.Common.{◌≡◌, ap, sym, ◌∙◌, subst, map, List}
use Rattle.csv.specs.Records.{Row, fields_of}
use Rattle.ds_formula.specs.declared.cells.Shape.{Shape}
use Rattle.ds_formula.specs.declared.content.Content.{Content}
use Rattle.ds_eval.specs.SheetContents.{contents_of}
use Rattle.ds_eval.specs.declared.value.Value.{Value}
use Rattle.ds_grid.specs.Grids.{IsGridOf, AllRead, FailsAt}
use Rattle.ds_grid.specs.Labels.{table_text}
use Rattle.ds_grid.proofs.Fields.{fails_of, reads_all}
use Rattle.ds_grid.proofs.report.values_of.Goals as goal

pub returns-in-Err-clause-fails : goal.returns-in-Err-clause-fails
returns-in-Err-clause-fails c = fails_of c.args.form c.args.bytes.now (map fields_of c.in_ok-records.records.items) c.in_ok-shape.shape c.in-Err.end c.in_ok-records.ensures
    (subst (λ (rows : List Row). IsGridOf (map fields_of rows) c.in_ok-shape.shape) c.deref.ensures.value c.in_ok-shape.ensures.shape)
    (subst (λ (rows : List Row). FailsAt c.args.form c.in_ok-shape.shape (map fields_of rows) c.in-Err.end) c.deref-2.ensures.value c.in-Err.ensures.fails)

pub returns-clause-shows : goal.returns-clause-shows
returns-clause-shows c =
    let shape : c.new-sheet.result.shape ≡ c.in_ok-shape.shape = c.new-sheet.ensures.0 in
    let read : AllRead c.args.form c.in_ok-shape.shape (map fields_of c.in_ok-records.records.items) c.in-Ok.contents.items = subst (λ (rows : List Row). AllRead c.args.form c.in_ok-shape.shape (map fields_of rows) c.in-Ok.contents.items) c.deref-2.ensures.value c.in-Ok.ensures.all in
    record {
      rows = map fields_of c.in_ok-records.records.items;
      csv = c.in_ok-records.ensures;
      shape = c.new-sheet.result.shape;
      grid = subst (λ (s : Shape). IsGridOf (map fields_of c.in_ok-records.records.items) s) (sym shape)
          (subst (λ (rows : List Row). IsGridOf (map fields_of rows) c.in_ok-shape.shape) c.deref.ensures.value c.in_ok-shape.ensures.shape);
      contents = contents_of c.new-sheet.result;
      reads = reads_all c.args.form (map fields_of c.in_ok-records.records.items) c.new-sheet.result
          (subst (λ (s : Shape). AllRead c.args.form s (map fields_of c.in_ok-records.records.items) c.new-sheet.result.contents.items) (sym shape)
          (subst (λ (xs : List Content). AllRead c.args.form c.in_ok-shape.shape (map fields_of c.in_ok-records.records.items) xs) (sym c.new-sheet.ensures.1) read));
      values = c.in_ok-values.values.items;
      scratch = c.in_ok-values.ensures;
      is =
          c.in_ok-table_lines.ensures
          ∙ ap (λ (rows : List Row). table_text c.args.form c.in_ok-shape.shape.columns (map fields_of rows) c.deref-4.result.now) c.deref-3.ensures.value
          ∙ ap (λ (vs : List Value). table_text c.args.form c.in_ok-shape.shape.columns (map fields_of c.in_ok-records.records.items) vs) c.deref-4.ensures.value
          ∙ ap (λ (s : Shape). table_text c.args.form s.columns (map fields_of c.in_ok-records.records.items) c.in_ok-values.values.items) (sym shape);
    }
