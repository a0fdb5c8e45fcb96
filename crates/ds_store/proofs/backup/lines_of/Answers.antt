use Rattle.std.proofs.Common.{◌≡◌, ◌∙◌, ap, inl, inr, map, subst, sym}
use Rattle.std.specs.String.{string_bytes}
use Rattle.ds_store_keys.specs.Keys.{StandOnce, keys_of}
use Rattle.ds_store.specs.Opened.{Leads, fault_at}
use Rattle.ds_store.specs.Unsound.{AreUnsound, Makes}
use Rattle.ds_store.proofs.Unsound.{keys_fault, keys_unsound, leads_makes}
use Rattle.ds_store_journal.proofs.Noting.{if_err}
use Rattle.ds_store.proofs.backup.lines_of.Goals as goal

pub returns-clause-leads : goal.returns-clause-leads
returns-clause-leads g c =
    let r = c.in_ok-leads.leads in (
      r.layout,
      r.counts.counts.items,
      r.sheet,
      subst (λ ls. Leads r.layout r.counts.counts.items r.sheet (map string_bytes ls)) c.deref.ensures.value c.in_ok-leads.ensures.leads,
      subst (λ ls. StandOnce (keys_of r.layout (map string_bytes ls))) c.deref-2.ensures.value c.in_ok-of_lines.ensures.keys.once,
    )

pub returns-in_err-lines-clause-err : goal.returns-in_err-lines-clause-err
returns-in_err-lines-clause-err g c clean held holds =
    if_err c.from_residual.result _ _ c.from_residual.ensures (λ told is. inl (c.in_err-lines.field-0.0, is, c.in_err-lines.ensures.err clean held holds))

pub returns-in_err-of_lines-clause-err : goal.returns-in_err-of_lines-clause-err
returns-in_err-of_lines-clause-err g c clean held holds =
    let r = c.in_ok-leads.leads in
    let all : map string_bytes c.in_ok-lines.lines.items ≡ held = (c.in_ok-lines.ensures.all clean held holds).0 in
    let first : map string_bytes c.deref.result.now ≡ held = ap (map string_bytes) c.deref.ensures.value ∙ all in
    let these : map string_bytes c.deref-2.result.now ≡ held = ap (map string_bytes) c.deref-2.ensures.value ∙ all in
    let makes = subst (Makes r.layout) (first ∙ sym these) (leads_makes r.layout r.counts.counts.items r.sheet (map string_bytes c.deref.result.now) c.in_ok-leads.ensures.leads) in
    let again = keys_fault string_bytes r.layout c.deref-2.result.now c.in_err-of_lines.field-0.0 makes c.in_err-of_lines.ensures.fault c.in_err-of_lines.ensures.again in
    if_err c.from_residual-in_err-of_lines.result _ _ c.from_residual-in_err-of_lines.ensures (λ told is.
    inr (rw is (subst (λ ls. AreUnsound ls (fault_at c.in_err-of_lines.field-0.0.number c.in_err-of_lines.field-0.0.fault)) these (keys_unsound (map string_bytes c.deref-2.result.now) _ again))))
