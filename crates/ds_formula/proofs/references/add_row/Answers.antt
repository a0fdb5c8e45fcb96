use Rattle.std.proofs.Common.{sym, ap, ◌∙◌, true, false, [], ◌∷◌, ◌++◌}
use Rattle.std.specs.Global.{Vec}
use Rattle.std.proofs.lemmas.List.{append-nil}
use Rattle.ds_formula.specs.declared.cells.Cell.{Cell}
use Rattle.ds_formula.proofs.Marks.{marked_more}
use Rattle.ds_formula.proofs.references.add_row.Goals as goal
use Rattle.ds_formula.proofs.references.add_row.Goals.{then-marks-place+in_ok-push, else-marks-place}

pub loop-place-preserved : goal.loop-place-preserved
loop-place-preserved c =
    elim c.if-marks-place.branch [
      | then-marks-place+in_ok-push w ↦ marked_more _ _ true c.loop-place.cells.items _ w.if-marks-place.true c.loop-place.invariant
          (ap (λ (v : Vec Cell). v.items) w.cells-is ∙ w.in_ok-push.ensures.items ∙ ap (λ (x : Cell). c.loop-place.cells.items ++ x ∷ []) w.cell_by.ensures)
      | else-marks-place w ↦ marked_more _ _ false c.loop-place.cells.items _ w.if-marks-place.false c.loop-place.invariant (ap (λ (v : Vec Cell). v.items) w.cells-is ∙ sym (append-nil _))
    ]
