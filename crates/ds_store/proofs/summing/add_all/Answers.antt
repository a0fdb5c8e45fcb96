use Rattle.std.proofs.Common.{◌∙◌, ◌+◌, ◌++◌, ◌∷◌, [], Err, ap, append_assoc, arith, drop, inr, map, refl, sym, take}
use Rattle.std.proofs.lemmas.List.{length-map, length-take}
use Rattle.std.specs.String.{string_bytes}
use Rattle.ds_store_journal.proofs.Noting.{cut_at}
use Rattle.ds_store.proofs.summing.add_all.Goals as goal

pub returns-in-Err-Wrong-clause-wrong : goal.returns-in-Err-Wrong-clause-wrong
returns-in-Err-Wrong-clause-wrong c before at =
    let lines = c.args.lines.now in
    let index = c.loop-line.line-index in
    let bytes = c.deref.result.now in
    let front = map string_bytes (take index lines) in
    let back = map string_bytes (drop (index + 1) lines) in
    let cut = cut_at string_bytes lines index c.line-item.result c.loop-line-test.true c.line-item.is ∙ ap (λ b. (front ++ b ∷ []) ++ back) (sym c.deref.ensures) in
    let wrong = c.in-Err-Wrong.ensures.wrong (ap Err c.in-Err-Wrong.field-0-is) (before ++ front) (c.loop-line.invariant.0 before at) in
    inr (
      c.saturating_add-number.result,
      refl,
      record {
        front = front;
        line = bytes;
        back = back;
        are = cut ∙ append_assoc front (bytes ∷ []) back;
        at = omega (arith, c.loop-line.invariant.1, c.loop-line-test.true, length-map (take index lines) string_bytes, length-take index lines);
        is = wrong.0;
        wrong = wrong.1;
      },
    )
