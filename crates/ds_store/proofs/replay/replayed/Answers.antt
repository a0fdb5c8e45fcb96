use Rattle.std.proofs.Common.{rules, ◌≡◌, ◌∷◌, ◌∙◌, [], inr, map, refl, subst, sym}
use Rattle.std.specs.String.{string_bytes}
use Rattle.ds_store_journal.proofs.Noting.{if_err}
use Rattle.ds_store.specs.Opened.{LeadsNowhere}
use Rattle.ds_store.proofs.replay.replayed.Goals as goal

pub returns-in_err-follow_rest-clause-nowhere : goal.returns-in_err-follow_rest-clause-nowhere
returns-in_err-follow_rest-clause-nowhere c =
    let first = c.as_bytes.result.now in
    let rest = map string_bytes c.in-Some.rest.now in
    let are : map string_bytes c.args.lines.now ≡ first ∷ rest = search rules in
    let stops = c.in_err-follow_rest.ensures.stops (first ∷ []) c.in-Ok.ensures.leads c.in-Ok.ensures.counts refl in
    if_err c.from_residual.result _ _ c.from_residual.ensures (λ fault is.
    let same : fault ≡ c.in_err-follow_rest.field-0.0 = is in
    subst (λ ls. LeadsNowhere ls fault) (sym are) (inr (inr (stops.0, stops.1, same ∙ stops.2, stops.3))))
