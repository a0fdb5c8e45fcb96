use Rattle.std.proofs.Common.{◌≡◌, ◌<◌, ◌∙◌, Some, false, true, IfSome, subst, inl, inr}
use Rattle.ds_script_io.specs.Fields.{is_skipped}
use Rattle.ds_store_journal.specs.Journals.{asked_view, edit_in}
use Rattle.ds_formula.specs.Cells.{IsInside}
use Rattle.ds_store_journal.proofs.Noting.{if_err}
use Rattle.ds_store_journal.specs.declared.journal.AskedEdit.{AskedEdit}
use Rattle.ds_store_edits.proofs.edits.Passed.pass.Goals as goal

pub returns-in_default-clause-passed : goal.returns-in_default-clause-passed
returns-in_default-clause-passed c before after has = c.skip.ensures.passed (c.in_ok-asked.ensures.skipped c.in_default.is) before after has

pub returns-clause-passed : goal.returns-clause-passed
returns-clause-passed c before after has =
    let layout = c.args.layout.now in
    let line = c.args.line.now in
    let asks = subst (λ o. IfSome o (λ a. (is_skipped line ≡ false) × (edit_in layout line ≡ Some (asked_view a)))) c.in-Some.is c.in_ok-asked.ensures.asks in
    let inside = subst (λ o. IfSome o (λ (a : AskedEdit). (a.process < layout.processes) × IsInside layout.shape a.cell)) c.in-Some.is c.in_ok-asked.ensures.inside in
    c.count.ensures.passed layout before after line inside.0 asks.0 asks.1 has

pub returns-in_err-asked-clause-unlisted : goal.returns-in_err-asked-clause-unlisted
returns-in_err-asked-clause-unlisted c =
    if_err c.from_residual.result _ _ c.from_residual.ensures (λ fault is before after has.
    let same : fault ≡ c.in_err-asked.field-0.0 = is in inl (same ∙ c.in_err-asked.ensures.fault, c.in_err-asked.ensures.neither))

pub returns-in_err-maker-clause-unlisted : goal.returns-in_err-maker-clause-unlisted
returns-in_err-maker-clause-unlisted c =
    if_err c.from_residual-in_err-maker.result _ _ c.from_residual-in_err-maker.ensures (λ fault is before after has.
    let same : fault ≡ c.in_err-maker.field-0.0 = is in inr (same ∙ c.in_err-maker.ensures.full.0, has.full c.in_err-maker.ensures.full.1))
