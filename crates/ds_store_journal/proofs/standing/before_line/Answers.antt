use Rattle.std.proofs.Common.{inr, refl, ap, ◌∙◌}
use Rattle.ds_script_io.specs.Fields.{is_skipped}
use Rattle.ds_store_journal.specs.Standings.{before_in}
use Rattle.ds_store_journal.proofs.Written.{before_back}
use Rattle.ds_store_journal.proofs.standing.before_line.Goals as goal

pub returns-else-says-clause-unwritten : goal.returns-else-says-clause-unwritten
returns-else-says-clause-unwritten c =
    let layout = c.args.layout.now in
    let line = c.as_bytes.ensures.value ∙ c.in_ok-line.ensures in
    inr (refl, λ may. c.says.ensures.other c.if-says.false (ap is_skipped line) (ap (before_in layout) line ∙ before_back layout c.args.mention.now may))
