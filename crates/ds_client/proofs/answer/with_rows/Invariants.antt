use Rattle.std.proofs.Common.{◌≡◌, ◌++◌, drop}
use Rattle.std.specs.Prelude.{option_map}
use Rattle.serde_json.specs.View.{items_view}
use Rattle.ds_client.specs.AnswerLines.{rows_in}
use Rattle.ds_client.proofs.answer.with_rows.Given as goal

abbrev pub invariant-loop-i : goal.invariant-loop-i
invariant-loop-i l = option_map (λ text. l.all.items ++ text) (rows_in (items_view (drop l.i l.rows))) ≡ option_map (λ text. l.fn.lines.items ++ text) (rows_in (items_view l.rows))
