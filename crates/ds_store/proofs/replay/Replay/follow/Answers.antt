use Rattle.std.proofs.Common.{◌≡◌, ◌∙◌, ◌<◌, Some, false, IfSome, length, ap, sym, subst, inr}
use Rattle.std.specs.Arc.{arc_value}
use Rattle.ds_formula.specs.Cells.{IsInside}
use Rattle.ds_layout.specs.declared.layout.Layout.{Layout}
use Rattle.ds_script_io.specs.Fields.{is_skipped}
use Rattle.ds_store.proofs.Growing.{if_err, passes_over}
use Rattle.ds_store_journal.specs.Journals.{asked_view, edit_in}
use Rattle.ds_store_journal.specs.declared.journal.AskedEdit.{AskedEdit}
use Rattle.ds_store.proofs.replay.Replay.follow.Goals as goal

pub returns-in-Ok-None-clause-followed : goal.returns-in-Ok-None-clause-followed
returns-in-Ok-None-clause-followed c lines h = record {
  edits = h.edits;
  goes_on = passes_over c.args.self.now.layout c.args.self.now.counts.counts.items lines c.args.line.now h.edits h.goes_on (c.in-Ok-None.ensures.skipped c.in-Ok-None.field-0-is);
  made = h.made;
}

pub returns-in-Ok-Some-clause-unfollowed : goal.returns-in-Ok-Some-clause-unfollowed
returns-in-Ok-Some-clause-unfollowed c lines leads counts =
    let layout = c.args.self.now.layout in
    let line = c.args.line.now in
    let sheet = c.args.self.now.sheet in
    let asked = c.in-Ok-Some.asked in
    let board : (arc_value sheet.sheet.sheet).board.layout ≡ layout = leads.made.layout_is in
    let asks = subst (λ o. IfSome o (λ (a : AskedEdit). (is_skipped line ≡ false) × (edit_in layout line ≡ Some (asked_view a)))) c.in-Ok-Some.field-0-is c.in-Ok-Some.ensures.asks in
    let inside = subst (λ o. IfSome o (λ (a : AskedEdit). (a.process < layout.processes) × IsInside layout.shape a.cell)) c.in-Ok-Some.field-0-is c.in-Ok-Some.ensures.inside in
    let seats : length sheet.seats.items ≡ layout.processes = sheet.seated.count ∙ ap (λ (l : Layout). l.processes) board in
    let low : asked.process < length c.args.self.now.counts.counts.items = subst (λ n. asked.process < n) (sym counts) inside.0 in
    let seated : asked.process < length sheet.seats.items = subst (λ n. asked.process < n) (sym seats) inside.0 in
    if_err c.make.result (c.make.ensures.unmade low seated (subst (λ (l : Layout). IsInside l.shape asked.cell) (sym board) inside.1)) (λ fault why. (asks.0, inr (asked_view asked, asks.1, why)))
