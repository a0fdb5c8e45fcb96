use Rattle.std.proofs.Common.{◌≡◌, ℕ, ◌*◌, ◌-◌, List, ◌++◌, drop}
use Rattle.ds_script_io.specs.AnswerTexts.{rows_text}
use Rattle.ds_script_io.specs.Csv.{IsReady, text_of}
use Rattle.ds_script_io.proofs.answer.value_lines.Given as goal

abbrev pub invariant-loop-row : goal.invariant-loop-row
invariant-loop-row l = record {
  ready : IsReady l.writer;
  text : List ℕ;
  written : text_of l.writer ≡ l.fn.text.items ++ text;
  whole : text ++ rows_text l.shape.columns (l.shape.rows - l.row) (drop (l.row * l.shape.columns) l.values) ≡ rows_text l.shape.columns l.shape.rows l.values;
}
