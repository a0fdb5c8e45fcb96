use Rattle.std.proofs.Common.{rules, ◌≡◌, ◌∙◌, ◌++◌, ◌∷◌, [], ap, map, sym, subst, take, drop, ◌+◌}
use Rattle.std.specs.String.{string_bytes}
use Rattle.ds_store_journal.specs.Faults.{IsUncounted}
use Rattle.ds_store_journal.proofs.Noting.{cut_at, if_err, uncounted_more}
use Rattle.ds_store_journal.proofs.standings.standings_of.Goals as goal

pub returns-in_err-follow-clause-full : goal.returns-in_err-follow-clause-full
returns-in_err-follow-clause-full c =
    let layout = c.args.layout.now in
    let lines = c.args.lines.now in
    let index = c.loop-line.line-index in
    let first = map string_bytes (take index lines) in
    let bytes = c.as_bytes.result.now in
    let cut = cut_at string_bytes lines index c.line-item.result c.loop-line-test.true c.line-item.is ∙ ap (λ b. (first ++ b ∷ []) ++ map string_bytes (drop (index + 1) lines)) (sym c.as_bytes.ensures.value) in
    let full = c.in_err-follow.ensures.full first c.loop-line.invariant.1 in
    if_err c.from_residual-in_err-follow.result _ _ c.from_residual-in_err-follow.ensures (λ fault is.
    let same : fault ≡ c.in_err-follow.field-0.0 = is in
    subst (IsUncounted layout (map string_bytes lines)) (sym same) (uncounted_more layout (first ++ bytes ∷ []) (map string_bytes (drop (index + 1) lines)) (map string_bytes lines) _ cut full))
