use Rattle.ds_store_journal.proofs.Noting.{if_err}
use Rattle.ds_store.proofs.store.Store.lines.Goals as goal

pub returns-in_err-lines-clause-err : goal.returns-in_err-lines-clause-err
returns-in_err-lines-clause-err g c clean held holds =
    if_err c.from_residual.result _ _ c.from_residual.ensures (λ told is. (c.in_err-lines.field-0.0, is, c.in_err-lines.ensures.err clean held holds))
