use Rattle.std.proofs.Common.{List, ◌<◌, ap, subst, ◌∙◌, [], ◌∷◌, map}
use Rattle.std.proofs.lemmas.List.{map-append}
use Rattle.csv.specs.Records.{fields_of}
use Rattle.serde_json.specs.declared.value.Value.{Value}
use Rattle.serde_json.specs.Data.{string}
use Rattle.serde_json.specs.View.{view}
use Rattle.ds_batch.proofs.Records.{texts_more}
use Rattle.ds_batch.proofs.json.record_value.Goals as goal

pub loop-index-preserved : goal.loop-index-preserved
loop-index-preserved c =
    texts_more (fields_of c.args.row.now) c.loop-index.index (map view c.loop-index.items.items) _ (view c.in_ok-field_value.field-0) (subst (λ n. c.loop-index.index < n) c.len-index-end.ensures c.loop-index-test.true)
    (ap (λ (l : List Value). map view l) c.in_ok-push.ensures.items ∙ map-append view c.loop-index.items.items (c.in_ok-field_value.field-0 ∷ []))
    (c.in_ok-field_value.ensures ∙ ap string c.field.ensures) c.loop-index.invariant
