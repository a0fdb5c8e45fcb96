use Rattle.std.proofs.Common.{inl}
use Rattle.std.proofs.lemmas.Result.{err_from_is_err_and}
use Rattle.sqlite.specs.Held.{state}
use Rattle.ds_store_table.specs.Tables.{numbered}
use Rattle.ds_store_table.proofs.Reading.{none_missing}
use Rattle.ds_store_table.proofs.lines.read.Goals as goal

pub returns-in_err-lines-clause-err : goal.returns-in_err-lines-clause-err
returns-in_err-lines-clause-err g c clean lines has =
    let p = err_from_is_err_and c.from_residual.result c.from_residual.ensures.1 in
    rw (p.1, p.2) (c.in_err-lines.ensures.err clean (numbered 1 lines) (none_missing lines (state g.S.Store c.args.conn.now).now has))

pub returns-in_err-lines-clause-missing : goal.returns-in_err-lines-clause-missing
returns-in_err-lines-clause-missing g c clean all has =
    let p = err_from_is_err_and c.from_residual.result c.from_residual.ensures.1 in
    rw (p.1, p.2) (inl (c.in_err-lines.ensures.err clean all has))
