use Rattle.std.proofs.Common.{◌≡◌, ◌++◌, ◌+◌, ◌∷◌, [], length, ap, arith, length-append, rules}
use Rattle.std.proofs.lemmas.Result.{err_from_is_err_and}
use Rattle.std.specs.String.{string_bytes}
use Rattle.ds_store_table.proofs.Counting.{one_fails, one_line, one_other}
use Rattle.ds_store_table.proofs.lines.first_of.Goals as goal

pub returns-in_err-line-clause-err : goal.returns-in_err-line-clause-err
returns-in_err-line-clause-err c all rise are =
    let p = err_from_is_err_and c.from_residual-in_err-line.result c.from_residual-in_err-line.ensures.1 in
    rw (p.1, p.2) (one_fails string_bytes all c.args.rows.now c.loop-row.lines.items c.loop-row.row-index c.row-item.result are (search rules) c.row-item.is c.in_err-line.field-0.0 c.in_err-line.ensures.err)

pub returns-in-None-clause-before : goal.returns-in-None-clause-before
returns-in-None-clause-before c all rise are =
    one_other string_bytes all c.args.rows.now c.loop-row.lines.items c.loop-row.row-index c.row-item.result are (search rules) c.row-item.is c.loop-row.invariant.0 (c.len-number.result + 1) (search rules) (c.loop-row.invariant.2 all rise are)
    (λ it shows. rw c.in-None.is at (c.in_ok-line.ensures.is it shows))

pub loop-row-preserved : goal.loop-row-preserved
loop-row-preserved c =
    let old = c.loop-row.lines.items in
    let new = c.push_reserved.new.self.items in
    let items : new ≡ old ++ c.in-Some.line ∷ [] = c.push_reserved.ensures.items in
    let at : c.loop-row.row-index ≡ length old = c.loop-row.invariant.0 in (
      omega (arith, at, ap length items, length-append old (c.in-Some.line ∷ [])),
      search rules,
      λ all rise are.
          rw items (one_line string_bytes all c.args.rows.now old c.loop-row.row-index c.row-item.result are (search rules) c.row-item.is at (c.len-number.result + 1) (search rules) (c.loop-row.invariant.2 all rise are) c.in-Some.line
          (λ it shows. rw c.in-Some.is at (c.in_ok-line.ensures.is it shows))),
    )
