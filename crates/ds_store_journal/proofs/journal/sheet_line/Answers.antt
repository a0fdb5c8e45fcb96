use Rattle.std.proofs.Common.{◌≡◌, sym, ap, ◌∙◌}
use Rattle.ds_store_journal.specs.Journals.{sheet_in}
use Rattle.ds_store_journal.proofs.Written.{differ, sheet_back}
use Rattle.ds_store_journal.proofs.journal.sheet_line.Goals as goal

pub returns-in_err-read-clause-fault : goal.returns-in_err-read-clause-fault
returns-in_err-read-clause-fault c =
    let read = ap sheet_in (c.as_bytes.ensures.value ∙ c.in_ok-line.ensures) ∙ sheet_back c.args.layout.now in
    absurd (let none = c.in_err-read.ensures.none in cc)

pub returns-else-eq-clause-fault : goal.returns-else-eq-clause-fault
returns-else-eq-clause-fault c =
    let read = ap sheet_in (c.as_bytes.ensures.value ∙ c.in_ok-line.ensures) ∙ sheet_back c.args.layout.now in
    absurd (differ c.in_ok-read.read c.args.layout.now (sym c.eq.ensures ∙ c.if-eq.false) (sym c.in_ok-read.ensures.made ∙ read))
