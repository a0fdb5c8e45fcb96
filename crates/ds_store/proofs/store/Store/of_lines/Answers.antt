use Rattle.std.proofs.Common.{inl, map, subst}
use Rattle.std.specs.String.{string_bytes}
use Rattle.ds_store_journal.proofs.Noting.{if_err}
use Rattle.ds_store.specs.Opened.{fault_at}
use Rattle.ds_store.specs.Unsound.{AreUnsound, Makes}
use Rattle.ds_store.proofs.Unsound.{keys_fault, keys_unsound, leads_makes}
use Rattle.ds_store.proofs.store.Store.of_lines.Goals as goal

pub returns-in_err-keys-clause-err : goal.returns-in_err-keys-clause-err
returns-in_err-keys-clause-err g c =
    let r = c.in_ok-layout.field-0 in
    let led = leads_makes r.layout r.counts.counts.items r.sheet (map string_bytes c.deref.result.now) c.in_ok-layout.ensures.leads in
    let makes = subst (λ ls. Makes r.layout (map string_bytes ls)) c.deref.ensures.value led in
    let again = keys_fault string_bytes r.layout c.deref-3.result.now c.in_err-keys.field-0.0 (rw c.deref-3.ensures.value makes) c.in_err-keys.ensures.fault c.in_err-keys.ensures.again in
    if_err c.from_residual-in_err-keys.result _ _ c.from_residual-in_err-keys.ensures (λ told is.
    inl (rw is (subst (λ ls. AreUnsound (map string_bytes ls) (fault_at c.in_err-keys.field-0.0.number c.in_err-keys.field-0.0.fault)) c.deref-3.ensures.value (keys_unsound (map string_bytes c.deref-3.result.now) _ again))))
