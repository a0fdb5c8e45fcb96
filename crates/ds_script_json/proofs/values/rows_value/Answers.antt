use Rattle.std.proofs.Common.{ℕ, List, take, drop, map, ap, ◌∙◌, [], ◌∷◌}
use Rattle.std.proofs.lemmas.List.{map-append}
use Rattle.serde_json.specs.declared.value.Value.{Value}
use Rattle.serde_json.specs.View.{view}
use Rattle.ds_server.proofs.RowLemmas.{rows_more, take_min}
use Rattle.ds_script_json.proofs.values.rows_value.Goals as goal

pub loop-row-preserved : goal.loop-row-preserved
loop-row-preserved c =
    let t = take_min c.args.shape.now.columns c.loop-row.rest.now in
    rows_more c.args.shape.now.columns c.args.shape.now.rows c.loop-row.row c.loop-row.rest.now (map view c.loop-row.rows.items) _ c.split_at.result.0.now c.split_at.result.1.now (view c.in_ok-row_value.field-0) (map view c.push.new.self.items)
    c.loop-row-test.true c.loop-row.invariant (c.split_at.ensures.front ∙ (ap (λ (n : ℕ). take n c.loop-row.rest.now) c.min.ensures ∙ t.0)) (c.split_at.ensures.back ∙ (ap (λ (n : ℕ). drop n c.loop-row.rest.now) c.min.ensures ∙ t.1)) c.in_ok-row_value.ensures (ap (λ (l : List Value). map view l) c.in_ok-push.ensures.items ∙ map-append view c.loop-row.rows.items (c.in_ok-row_value.field-0 ∷ []))
