use Rattle.std.proofs.Common.{◌∷◌, arith, inr, map}
use Rattle.std.proofs.lemmas.Result.{err_from_is_err_and}
use Rattle.std.specs.String.{string_bytes}
use Rattle.ds_store_table.specs.Statements.{creation, insertion, removal}
use Rattle.ds_store_table.proofs.Failing.{one_failed}
use Rattle.ds_store_table.proofs.lines.fill_anew.Goals as goal

pub returns-in_err-remove-clause-runs : goal.returns-in_err-remove-clause-runs
returns-in_err-remove-clause-runs g c clean within =
    let p = err_from_is_err_and c.from_residual.result c.from_residual.ensures.1 in
    rw (p.1, p.2) (one_failed g.S.Store removal (creation ∷ map insertion (map string_bytes c.args.lines.now)) _ _ _ (c.in_err-remove.ensures.runs clean within))

pub returns-clause-runs : goal.returns-clause-runs
returns-clause-runs g c clean within =
    let first = c.in_ok-remove.ensures.runs (omega (arith, c.fill_new.ensures.survives.clean)) within in
    inr (c.remove.new.tx.conn.now, c.in_ok-remove.field-0, first, c.fill_new.ensures.runs clean first.runs.1.mode)
