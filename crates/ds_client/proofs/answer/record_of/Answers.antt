use Rattle.std.proofs.Common.{ℕ, List, [], ◌∷◌, ◌++◌, Option, ap, sym, ◌∙◌}
use Rattle.std.specs.Prelude.{option_map}
use Rattle.std.specs.Borrow.{Bor}
use Rattle.csv.specs.Records.{fields_of}
use Rattle.ds_client.proofs.Rows.{text_more}
use Rattle.ds_client.proofs.answer.record_of.Goals as goal

pub loop-i-preserved : goal.loop-i-preserved
loop-i-preserved c = record {
  texts =
      text_more c.args.row.now c.loop-i.i c.index-row-i.result c.in-Some.text.now (fields_of c.loop-i.texts) _ _ c.loop-i-test.true c.index-row-i.is
      (sym c.as_str.ensures ∙ ap (λ (o : Option (Bor (List ℕ))). option_map (λ s. s.now) o) c.in-Some.is)
      (c.in_ok-push_field-in-Some.ensures.fields ∙ ap (λ (p : List ℕ). fields_of c.loop-i.texts ++ (p ++ c.as_bytes.result.now) ∷ []) c.loop-i.invariant.partial ∙ ap (λ (t : List ℕ). fields_of c.loop-i.texts ++ t ∷ []) c.as_bytes.ensures.value)
      c.loop-i.invariant.texts;
  partial = c.in_ok-push_field-in-Some.ensures.partial;
}
