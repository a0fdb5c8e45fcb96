use Rattle.std.proofs.lemmas.Result.{err_from_is_err_and}
use Rattle.ds_formula.proofs.Steps.{end_here}
use Rattle.ds_formula.proofs.Parses.{whole_refused, whole_unended}
use Rattle.ds_formula.proofs.parser.expression.Goals as goal

pub returns-in_err-parsed-clause-refused : goal.returns-in_err-parsed-clause-refused
returns-in_err-parsed-clause-refused c =
    let p = err_from_is_err_and c.from_residual.result c.from_residual.ensures.1 in
    rw (p.1, p.2) (whole_refused _ _ _ c.in_err-parsed.ensures.refused)

pub returns-in_err-end-clause-refused : goal.returns-in_err-end-clause-refused
returns-in_err-end-clause-refused c =
    let p = err_from_is_err_and c.from_residual-in_err-end.result c.from_residual-in_err-end.ensures.1 in
    rw (p.1, p.2) (whole_unended _ _ _ _ _ _ c.in_ok-parsed.ensures.found c.in_err-end.ensures)

pub returns-clause-found : goal.returns-clause-found
returns-clause-found c = (_, _, c.in_ok-parsed.ensures.found, end_here _ _ c.in_ok-end.ensures)
