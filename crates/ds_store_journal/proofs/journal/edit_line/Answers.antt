use Rattle.std.proofs.Common.{rules, ◌≡◌, inr, refl, ap, ◌∙◌}
use Rattle.std.specs.String.{string_bytes}
use Rattle.ds_script_io.specs.Fields.{is_skipped}
use Rattle.ds_store_journal.specs.Journals.{asked_by, edit_in}
use Rattle.ds_store_journal.specs.Written.{edit_text}
use Rattle.ds_store_journal.proofs.Written.{edit_back}
use Rattle.ds_store_journal.proofs.journal.edit_line.Goals as goal

pub returns-else-asks-clause-unwritten : goal.returns-else-asks-clause-unwritten
returns-else-asks-clause-unwritten c =
    let layout = c.args.layout.now in
    let edit = c.args.edit.now in
    let text : string_bytes c.in_ok-line.line ≡ edit_text (asked_by edit) = search rules in
    let line = c.as_bytes.ensures.value ∙ text in
    inr (refl, λ may. c.asks.ensures.other c.if-asks.false (ap is_skipped line) (ap (edit_in layout) line ∙ edit_back layout edit may))
