use Rattle.std.proofs.Common.{◌≡◌, ◌++◌, drop}
use Rattle.std.specs.Prelude.{option_map}
use Rattle.serde_json.specs.View.{items_view}
use Rattle.ds_client.specs.AnswerLines.{entries_in}
use Rattle.ds_client.proofs.answer.with_entries.Given as goal

abbrev pub invariant-loop-i : goal.invariant-loop-i
invariant-loop-i l = option_map (λ text. l.all.items ++ text) (entries_in (items_view (drop l.i l.edits))) ≡ option_map (λ text. l.fn.lines.items ++ text) (entries_in (items_view l.edits))
