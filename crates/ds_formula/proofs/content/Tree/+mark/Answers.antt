use Rattle.std.proofs.Common.{arith, sym, subst}
use Rattle.ds_formula.specs.Plain.{formula}
use Rattle.ds_formula.specs.Marks.{Marks}
use Rattle.ds_formula.proofs.Marks.{marks_step, marks_all}
use Rattle.ds_formula.proofs.content.Tree.+mark.Goals as goal

pub loop-argument-preserved : goal.loop-argument-preserved
loop-argument-preserved t c = record {
  marks = marks_step _ _ _ _ _ _ (omega arith) c.argument-item.is c.loop-argument.invariant.marks c.mark-in-loop-argument.ensures.marks;
  rows = c.mark-in-loop-argument.ensures.rows;
}

pub returns-after-loop-argument-clause-marks : goal.returns-after-loop-argument-clause-marks
returns-after-loop-argument-clause-marks t c =
    let m = marks_all c.in-Call.field-0 c.in-Call.arguments _ _ _ _ c.deref-argument-items.ensures.value (omega arith) c.loop-argument.invariant.marks in
    subst (λ x. Marks (formula x) c.args.marks.now c.loop-argument.marks) (sym c.in-Call.is) m
