use Rattle.std.proofs.Common.{◌≡◌, ◌<◌, ◌∙◌, take, drop, List, ℕ, true, false, ap, sym, eqb-true, arith}
use Rattle.ds_a1.specs.Tokens.{tokens, begins_reference, goes_on}
use Rattle.ds_a1.proofs.Steps.{some_word, mark_next, reference_next, word_next, all_opens}
use Rattle.ds_a1.proofs.texts.opened.Goals as goal

pub loop-rest-preserved-in_ok-put_reference : goal.loop-rest-preserved-in_ok-put_reference
loop-rest-preserved-in_ok-put_reference c =
    let rest = c.loop-rest.rest.now in
    let n = c.word_length-length.result in
    let is : begins_reference (tokens rest) ≡ true = sym c.begins_reference.ensures ∙ c.if-begins_reference.true in
    let some : 0 < n = some_word rest n c.word_length-length.ensures.value is in
    let k : c.max.result ≡ n = omega (arith, c.max.ensures, some) in
    let front : c.split_at.result.0.now ≡ take n rest = c.split_at.ensures.front ∙ ap (λ (i : ℕ). take i rest) k in
    let back : c.split_at.result.1.now ≡ drop n rest = c.split_at.ensures.back ∙ ap (λ (i : ℕ). drop i rest) k in
    let goes : c.goes_on-ranged.result ≡ goes_on (tokens (drop n rest)) = c.goes_on-ranged.ensures ∙ ap (λ (t : List ℕ). goes_on (tokens t)) back in
    let next = reference_next c.loop-rest.open.items _ rest c.loop-rest.second c.goes_on-ranged.result n c.word_length-length.ensures.value is goes c.loop-rest.invariant in
    cc c.in_ok-put_reference.ensures

pub loop-rest-preserved-in_ok-extend_from_slice : goal.loop-rest-preserved-in_ok-extend_from_slice
loop-rest-preserved-in_ok-extend_from_slice c =
    let rest = c.loop-rest.rest.now in
    let n = c.word_length-length.result in
    let is : begins_reference (tokens rest) ≡ false = sym c.begins_reference.ensures ∙ c.if-begins_reference.false in
    let k : c.max.result ≡ n = omega (arith, c.max.ensures) in
    let front : c.split_at.result.0.now ≡ take n rest = c.split_at.ensures.front ∙ ap (λ (i : ℕ). take i rest) k in
    let back : c.split_at.result.1.now ≡ drop n rest = c.split_at.ensures.back ∙ ap (λ (i : ℕ). drop i rest) k in
    let next = word_next c.loop-rest.open.items _ rest c.loop-rest.second n c.word_length-length.ensures.value (omega arith) is c.loop-rest.invariant in
    cc c.in_ok-extend_from_slice.ensures.items

pub loop-rest-preserved : goal.loop-rest-preserved
loop-rest-preserved c =
    let rest = c.loop-rest.rest.now in
    let k : c.max.result ≡ 1 = omega (arith, c.max.ensures) in
    let back : c.split_at.result.1.now ≡ drop 1 rest = c.split_at.ensures.back ∙ ap (λ (i : ℕ). drop i rest) k in
    let next = mark_next c.loop-rest.open.items _ rest c.loop-rest.second 0 (omega arith) (omega (arith, c.word_length-length.ensures.value)) c.loop-rest.invariant in
    cc (c.in_ok-push.ensures.items, c.opened_mark.ensures)

pub returns : goal.returns
returns c = all_opens c.loop-rest.open.items _ c.loop-rest.rest.now c.loop-rest.second (eqb-true _ 0 (sym c.is_empty.ensures ∙ c.loop-rest-test.false)) c.loop-rest.invariant
