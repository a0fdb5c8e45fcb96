use Rattle.std.proofs.Common.{◌≡◌, ◌+◌, ◌-◌, ◌<◌, ◌≤◌, length, sym, ap, ◌∙◌, slice_index_or, arith}
use Rattle.std.proofs.lemmas.List.{get_or_read}
use Rattle.ds_eval.specs.declared.inputs.Input.{Input}
use Rattle.ds_eval.specs.Inputs.{no_input}
use Rattle.ds_eval.specs.Rows.{right_of}
use Rattle.ds_eval.proofs.Cells.{is_same_true}
use Rattle.ds_eval.proofs.Rows.{whole_row}
use Rattle.ds_eval.proofs.inputs.Inputs.row_at.Goals as goal

pub returns-then-eq-clause-cells : goal.returns-then-eq-clause-cells
returns-then-eq-clause-cells c =
    let xs = c.self.inside.items.items in
    let place = c.in_ok-place.place in
    let width = c.args.width in
    let d = rw c.deref.ensures.value at c.in_ok-place.ensures.some in
    let n : 0 < width = omega (arith, c.if-width-eq0.false) in
    let l : place + width ≤ length xs = omega (arith, c.len.ensures, c.if-width-len.false, d.0) in
    let r : c.index.result.now ≡ slice_index_or xs (place + (width - 1)) no_input = get_or_read xs _ _ (omega (arith, n, l)) c.index.ensures no_input in
    let s = is_same_true c.index.result.now.cell (right_of c.args.first (width - 1)) (sym c.eq.ensures ∙ c.if-eq.true) in
    rw (← c.self.view_is) (whole_row xs c.self.invariant c.args.first place width n l d.1 (sym (ap (λ (i : Input). i.cell) r) ∙ s))
