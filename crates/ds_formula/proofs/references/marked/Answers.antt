use Rattle.std.proofs.Common.{◌≡◌, ◌+◌, ◌*◌, arith, sym, ap, ◌∙◌}
use Rattle.std.specs.Global.{Vec}
use Rattle.ds_formula.specs.declared.cells.Cell.{Cell}
use Rattle.ds_formula.specs.Marks.{marked_below}
use Rattle.ds_formula.proofs.Marks.{none_above, none_below, row_skipped}
use Rattle.ds_formula.proofs.references.marked.Goals as goal
use Rattle.ds_formula.proofs.references.marked.Goals.{then-rows-row+in_ok-add_row, else-rows-row}

pub loop-row-init : goal.loop-row-init
loop-row-init c = record { cells = c.new-cells.ensures.items ∙ sym (none_above c.args.marks.now c.args.rows.now c.requires); within = c.requires.within }

pub loop-row-preserved : goal.loop-row-preserved
loop-row-preserved c =
    let marks = c.args.marks.now in
    let row = c.loop-row.row in
    let next : 26 * row + 26 ≡ 26 * (row + 1) = omega arith in
    record {
      cells = elim c.if-rows-row.branch [
        | then-rows-row+in_ok-add_row w ↦ ap (λ (v : Vec Cell). v.items) w.cells-is ∙ w.in_ok-add_row.ensures ∙ ap (marked_below marks) next
        | else-rows-row w ↦ ap (λ (v : Vec Cell). v.items) w.cells-is ∙ c.loop-row.invariant.cells ∙ sym (row_skipped marks c.args.rows.now row (omega arith) c.requires w.if-rows-row.false) ∙ ap (marked_below marks) next
      ];
      within = omega arith;
    }

pub returns : goal.returns
returns c = c.loop-row.invariant.cells ∙ sym (none_below c.args.marks.now c.args.rows.now c.loop-row.row c.requires c.loop-row.invariant.within (λ below low. let end = c.min-row-end.ensures in let out = c.loop-row-test.false in omega arith))
