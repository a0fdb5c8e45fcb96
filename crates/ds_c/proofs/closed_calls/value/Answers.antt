use Rattle.std.proofs.Common.{refl, sym, ap, subst, ◌∙◌}
use Rattle.c_handles.specs.Handles.{content}
use Rattle.ds_c.specs.Closed.{LacksClosedCell}
use Rattle.ds_c.specs.Rows.{value_row}
use Rattle.ds_c.proofs.HeldSteps.{lacks_closed_cell}
use Rattle.ds_c.proofs.closed_calls.value.Goals as goal

pub returns-in-Ok : goal.returns-in-Ok
returns-in-Ok c =
    let told = c.of.ensures ∙ ap value_row c.in-Ok.ensures.ok.1 in
    content c.in-Closed.closed c.in-Closed.closed c.in-Closed.is c.in-Closed.is (c.in-Ok.ensures.ok.0, told, refl)

pub returns-in-Err : goal.returns-in-Err
returns-in-Err c =
    let sheet = c.in-Closed.closed in
    let lacks = lacks_closed_cell sheet c.args.cell c.in-Err.fault c.in-Err.ensures.err in
    content sheet sheet c.in-Closed.is c.in-Closed.is (subst (LacksClosedCell c.args.cell sheet) (sym c.of-in-Err.ensures) lacks, refl)
