use Rattle.std.proofs.Common.{◌≡◌, ◌++◌, sym, ap, ◌∙◌, arith, String, Global}
use Rattle.std.proofs.lemmas.List.{append-nil}
use Rattle.std.specs.String.{string_bytes}
use Rattle.ds_formula.proofs.Texts.{separator, no_separator, some_separator, argument_written, call_written}
use Rattle.ds_formula.proofs.content.Tree.+writing.Goals as goal
use Rattle.ds_formula.proofs.content.Tree.+writing.Goals.{write-then-index-gt0+in_ok-push_str-in-Call-3, write-else-index-gt0}

pub write-loop-index-preserved : goal.write-loop-index-preserved
write-loop-index-preserved t c =
    let p : string_bytes c.if-index-gt0.text ≡ string_bytes c.loop-index.text ++ separator c.loop-index.index = elim c.if-index-gt0.branch [
      | write-then-index-gt0+in_ok-push_str-in-Call-3 w ↦ ap (λ (x : String Global). string_bytes x) w.text-is ∙ w.in_ok-push_str-in-Call-3.ensures.bytes ∙ ap (λ x. string_bytes c.loop-index.text ++ x) (sym (some_separator c.loop-index.index w.if-index-gt0.true))
      | write-else-index-gt0 w ↦ ap (λ (x : String Global). string_bytes x) w.text-is ∙ sym (append-nil (string_bytes c.loop-index.text)) ∙ ap (λ x. string_bytes c.loop-index.text ++ x) (sym (no_separator c.loop-index.index w.if-index-gt0.false))
    ] in
    argument_written c.deref-argument-items.result.now c.loop-index.index c.argument-item.result _ _ _ _ (omega arith) c.argument-item.is c.loop-index.invariant p c.in_ok-write-in-Call.ensures

pub write-returns-after-loop-index : goal.write-returns-after-loop-index
write-returns-after-loop-index t c =
    call_written c.push_str-in-Call-3.result c.in-Call.function c.in-Call.arguments c.deref-argument-items.result.now c.loop-index.index c.args.self.now _ (string_bytes c.push_str-in-Call.new.self) _ _ _ c.in-Call.is
    c.deref-argument-items.ensures.value (omega arith) (c.in_ok-push_str-in-Call.ensures.bytes ∙ ap (λ x. string_bytes c.args.text.now ++ x) c.name.ensures) c.in_ok-push_str-in-Call-2.ensures.bytes c.loop-index.invariant c.push_str-in-Call-3.ensures.bytes
