use Rattle.std.proofs.Common.{refl, arith}
use Rattle.ds_formula.proofs.Lists.{one_listed}
use Rattle.ds_formula.proofs.references.add_behind.Goals as goal

pub returns : goal.returns
returns c = λ yes.
    let column = c.if-cell-ge-COLUMN_LIMIT.false in
    let row = c.if-cell-ge-ROW_LIMIT.false in
    rw (c.in_ok-push.ensures.items) (one_listed c.args.cell c.args.cells.now.items c.requires (rw c.as_slice.ensures.value at (c.if-not-is_behind.ensures.0 refl)) (record { column = omega (arith, column); row = omega (arith, row) }))
