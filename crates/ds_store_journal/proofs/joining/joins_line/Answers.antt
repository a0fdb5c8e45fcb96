use Rattle.std.proofs.Common.{inr, refl, ap, ◌∙◌}
use Rattle.ds_script_io.specs.Fields.{is_skipped}
use Rattle.ds_store_journal.specs.Joining.{joins_in}
use Rattle.ds_store_journal.proofs.Written.{joins_back}
use Rattle.ds_store_journal.proofs.joining.joins_line.Goals as goal

pub returns-else-says-clause-unwritten : goal.returns-else-says-clause-unwritten
returns-else-says-clause-unwritten c =
    let layout = c.args.layout.now in
    let line = c.as_bytes.ensures.value ∙ c.in_ok-line.ensures in
    inr (refl, λ may. c.says.ensures.other c.if-says.false (ap is_skipped line) (ap (joins_in layout) line ∙ joins_back layout c.args.number may))
