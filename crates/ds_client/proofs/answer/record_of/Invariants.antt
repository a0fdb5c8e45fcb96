use Rattle.std.proofs.Common.{◌≡◌, [], ◌++◌, drop}
use Rattle.std.specs.Prelude.{option_map}
use Rattle.csv.specs.Records.{fields_of, partial_of}
use Rattle.serde_json.specs.View.{items_view}
use Rattle.ds_client.specs.AnswerLines.{texts_in}
use Rattle.ds_client.proofs.answer.record_of.Given as goal

abbrev pub invariant-loop-i : goal.invariant-loop-i
invariant-loop-i l = record {
  texts : option_map (λ texts. fields_of l.texts ++ texts) (texts_in (items_view (drop l.i l.row))) ≡ texts_in (items_view l.row);
  partial : partial_of l.texts ≡ [];
}
