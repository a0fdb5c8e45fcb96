use Rattle.std.proofs.Common.{◌++◌, ◌∙◌, ap, List, ℕ, append_assoc}
use Rattle.csv.specs.Records.{fields_of}
use Rattle.csv.specs.Writing.{row_text, default_writer}
use Rattle.ds_script_io.proofs.Rows.{rows_more}
use Rattle.ds_script_io.proofs.answer.value_lines.Goals as goal

pub loop-row-preserved : goal.loop-row-preserved
loop-row-preserved c = record {
  ready = c.in_ok-add_record.ensures.ready;
  text = c.loop-row.invariant.text ++ row_text default_writer (fields_of c.in_ok-fields.fields);
  written =
      c.in_ok-add_record.ensures.text
      ∙ ap (λ (t : List ℕ). t ++ row_text default_writer (fields_of c.in_ok-fields.fields)) c.loop-row.invariant.written
      ∙ append_assoc c.args.text.items c.loop-row.invariant.text (row_text default_writer (fields_of c.in_ok-fields.fields));
  whole =
      rows_more c.args.shape.now.columns c.args.shape.now.rows c.loop-row.row c.args.values.now c.loop-row.invariant.text _ (fields_of c.in_ok-fields.fields)
      c.loop-row-test.true c.loop-row.invariant.whole c.in_ok-fields.ensures;
}
