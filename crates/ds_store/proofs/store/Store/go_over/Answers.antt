use Rattle.std.proofs.Common.{inr, map, subst, sym}
use Rattle.std.specs.String.{string_bytes}
use Rattle.ds_store.specs.GoingOver.{GoesOver}
use Rattle.ds_store_journal.proofs.Noting.{if_err}
use Rattle.ds_store.proofs.store.Store.go_over.Goals as goal

pub returns-in_err-replace-clause-err : goal.returns-in_err-replace-clause-err
returns-in_err-replace-clause-err g c clean =
    let old = map string_bytes c.args.held.now in
    let over = subst (λ ls. GoesOver old (map string_bytes ls)) (sym c.deref-4.ensures.value) c.in_ok-lines.ensures.over in
    if_err c.from_residual-in_err-replace.result _ _ c.from_residual-in_err-replace.ensures (λ told is. inr (map string_bytes c.deref-4.result.now, over, c.in_err-replace.field-0.0, is, c.in_err-replace.ensures.err clean))
