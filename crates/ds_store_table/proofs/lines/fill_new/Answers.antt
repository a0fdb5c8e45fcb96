use Rattle.std.proofs.Common.{[], arith, inr, map}
use Rattle.std.proofs.lemmas.Result.{err_from_is_err_and}
use Rattle.std.specs.String.{string_bytes}
use Rattle.ds_store_table.specs.Statements.{creation, insertion}
use Rattle.ds_store_table.proofs.Failing.{one_failed}
use Rattle.ds_store_table.proofs.lines.fill_new.Goals as goal

pub returns-clause-holds : goal.returns-clause-holds
returns-clause-holds g c clean within bare =
    c.fill.ensures.holds clean [] (c.in_ok-create.ensures.holds (omega (arith, c.fill.ensures.survives.clean)) within bare)

pub returns-in_err-create-clause-runs : goal.returns-in_err-create-clause-runs
returns-in_err-create-clause-runs g c clean within =
    let p = err_from_is_err_and c.from_residual.result c.from_residual.ensures.1 in
    rw (p.1, p.2) (one_failed g.S.Store creation (map insertion (map string_bytes c.args.lines.now)) _ _ _ (c.in_err-create.ensures.runs clean within))

pub returns-clause-runs : goal.returns-clause-runs
returns-clause-runs g c clean within =
    let first = c.in_ok-create.ensures.runs (omega (arith, c.fill.ensures.survives.clean)) within in
    inr (c.create.new.tx.conn.now, c.in_ok-create.field-0, first, c.fill.ensures.runs clean first.runs.1.mode)
