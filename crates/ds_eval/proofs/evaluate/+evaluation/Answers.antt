use Rattle.std.proofs.Common.{◌∙◌, ℕ, true, false, sym, ap, subst, arith, inl, inr, List, [], ◌∷◌, min, rules}
use Rattle.ds_formula.specs.Cells.{count_of}
use Rattle.ds_formula.specs.Plain.{Formula, formula}
use Rattle.ds_eval.specs.declared.value.Value.{Value}
use Rattle.ds_eval.specs.declared.tally.Tally.{Tally}
use Rattle.ds_eval.specs.declared.tally.CellErrors.{CellErrors}
use Rattle.ds_eval.specs.declared.tally.Wants.{Wants}
use Rattle.ds_eval.specs.Tally.{IsTally}
use Rattle.ds_eval.specs.Operands.{errors_of}
use Rattle.ds_eval.specs.declared.gather.Gathered.{Gathered}
use Rattle.ds_eval.specs.Inputs.{values_in, heights_in}
use Rattle.ds_eval.specs.Local.{formula_height}
use Rattle.ds_eval.proofs.Views.{formula_reference, formula_range}
use Rattle.ds_eval.proofs.Heights.{formulas_more, operand_height_at, operand_height_past, three_heights}
use Rattle.ds_eval.specs.Evaluation.{as_seen}
use Rattle.ds_eval.proofs.Calls.{too_many, not_taken, computed, given, values, operand_at, operand_past, gathered, stands_cell, stands_range, stands_number, stands_prefix, stands_binary, stands_call}
use Rattle.ds_eval.proofs.evaluate.+evaluation.Goals as goal
use Rattle.ds_eval.proofs.evaluate.+evaluation.Goals.{gather-in-Reference, gather-in-Range, gather-in-Number, call-then-count-gt-ARGUMENTS_MOST-via-then-count-gt-ARGUMENTS_MOST, call-then-count-gt-ARGUMENTS_MOST-via-else-count-gt-ARGUMENTS_MOST+then-not-takes}

abbrev count_in : Gathered → ℕ
count_in g = g.tally.totals.count

abbrev tally_of : Gathered → Tally
tally_of g = g.tally

abbrev height_of : Gathered → ℕ
height_of g = g.height

abbrev alone : Value → List Value
alone v = v ∷ []

pub call-returns-then-count-gt-ARGUMENTS_MOST-clause-value :
    goal.call-returns-then-count-gt-ARGUMENTS_MOST-clause-value
call-returns-then-count-gt-ARGUMENTS_MOST-clause-value t c = λ h.
    let read = values_in c.args.inputs.now.items in
    c.unfit.ensures.value ∙ sym (elim c.then-count-gt-ARGUMENTS_MOST.branch [
      | call-then-count-gt-ARGUMENTS_MOST-via-then-count-gt-ARGUMENTS_MOST w ↦ too_many c.args.shape read c.args.function c.args.arguments.now (omega (arith, w.if-count-gt-ARGUMENTS_MOST))
      | call-then-count-gt-ARGUMENTS_MOST-via-else-count-gt-ARGUMENTS_MOST+then-not-takes w ↦ not_taken c.args.shape read c.args.function c.args.arguments.now (sym w.takes.ensures ∙ w.if-not-takes.true)
    ])

pub call-returns-then-takes_ranges-clause-value : goal.call-returns-then-takes_ranges-clause-value
call-returns-then-takes_ranges-clause-value t c = λ h.
    let read = values_in c.args.inputs.now.items in
    c.summary.ensures (given c.args.shape read true c.args.arguments.now)
    (subst (λ (w : Wants). IsTally w (values c.args.shape read (errors_of c.args.function) c.args.arguments.now) c.gather-gathered.result.tally) c.fold_of.ensures.wants
    (subst (λ (e : CellErrors). IsTally c.fold_of.result.wants (values c.args.shape read e c.args.arguments.now) c.gather-gathered.result.tally) c.fold_of.ensures.errors (c.gather-gathered.ensures.tally h)))
    ∙ sym (computed c.args.shape read c.args.function c.args.arguments.now true (omega (arith, c.if-count-gt-ARGUMENTS_MOST.false)) (sym c.takes.ensures ∙ c.if-not-takes.false) (sym c.takes_ranges.ensures ∙ c.if-takes_ranges.true))

pub call-returns-else-takes_ranges-clause-value : goal.call-returns-else-takes_ranges-clause-value
call-returns-else-takes_ranges-clause-value t c = λ h.
    let read = values_in c.args.inputs.now.items in
    c.operation.ensures (given c.args.shape read false c.args.arguments.now) (c.operands_of-operands.ensures.values h)
    ∙ sym (computed c.args.shape read c.args.function c.args.arguments.now false (omega (arith, c.if-count-gt-ARGUMENTS_MOST.false)) (sym c.takes.ensures ∙ c.if-not-takes.false) (sym c.takes_ranges.ensures ∙ c.if-takes_ranges.false))

pub operand-returns-then-k-arguments-clause-value :
    goal.operand-returns-then-k-arguments-clause-value
operand-returns-then-k-arguments-clause-value t c = λ h.
    c.evaluate.ensures.value h ∙ operand_at c.args.shape (values_in c.args.inputs.now.items) c.args.arguments.now c.args.k c.index-arguments-k.result c.if-k-arguments.true c.index-arguments-k.is

pub operand-returns-then-k-arguments-clause-height :
    goal.operand-returns-then-k-arguments-clause-height
operand-returns-then-k-arguments-clause-height t c =
    c.evaluate.ensures.height
    ∙ ap (λ (n : ℕ). min (count_of c.args.shape) n) (operand_height_at c.args.shape (heights_in c.args.inputs.now.items) c.args.arguments.now c.args.k c.index-arguments-k.result c.if-k-arguments.true c.index-arguments-k.is)

pub operand-returns-else-k-arguments-clause-value :
    goal.operand-returns-else-k-arguments-clause-value
operand-returns-else-k-arguments-clause-value t c = λ h.
    sym (operand_past c.args.shape (values_in c.args.inputs.now.items) c.args.arguments.now c.args.k (omega (arith, c.if-k-arguments.false)))

pub operand-returns-else-k-arguments-clause-height :
    goal.operand-returns-else-k-arguments-clause-height
operand-returns-else-k-arguments-clause-height t c =
    let none = operand_height_past c.args.shape (heights_in c.args.inputs.now.items) c.args.arguments.now c.args.k (omega (arith, c.if-k-arguments.false)) in
    omega (arith, none)

pub operands_of-returns-clause-height : goal.operands_of-returns-clause-height
operands_of-returns-clause-height t c =
    let all = three_heights c.args.shape (heights_in c.args.inputs.now.items) c.args.arguments.now c.requires in
    omega (arith, all, c.max.ensures, c.max-2.ensures, c.operand-first.ensures.height, c.operand-second.ensures.height, c.operand-third.ensures.height)

pub unfit-loop-argument-preserved : goal.unfit-loop-argument-preserved
unfit-loop-argument-preserved t c =
    formulas_more c.args.shape (heights_in c.args.inputs.now.items) (count_of c.args.shape) c.loop-argument.height c.evaluate-next.result.height c.max-height.result c.args.arguments.now c.loop-argument.argument-index c.argument-item.result
    c.loop-argument-test.true c.argument-item.is c.loop-argument.invariant c.evaluate-next.ensures.height (search rules)

pub gather-loop-argument-init : goal.gather-loop-argument-init
gather-loop-argument-init t c = record {
  count = omega (arith, c.new-gathered.ensures.count);
  tally = λ l. c.new-gathered.ensures.tally c.args.fold.wants;
  height = omega (arith, c.new-gathered.ensures.height);
}

pub gather-loop-argument-preserved : goal.gather-loop-argument-preserved
gather-loop-argument-preserved t c =
    let shape = c.args.shape in
    let xs = c.args.arguments.now in
    let read = values_in c.args.inputs.now.items in
    let errors = c.args.fold.errors in
    let wants = c.args.fold.wants in
    let heights = heights_in c.args.inputs.now.items in
    let i = c.loop-argument.argument-index in
    let x = c.argument-item.result in
    let old = c.loop-argument.gathered in
    let new = c.match-argument.gathered in
    elim c.match-argument.branch [
      | gather-in-Reference w ↦
          let f = ap formula w.in-Reference.is ∙ formula_reference w.in-Reference.cell in
          let m = ap height_of w.gathered-is ∙ w.with-gathered.ensures.height in
          record {
            count = omega (arith, w.with-gathered.ensures.count, ap count_in w.gathered-is);
            tally = λ l.
                gathered shape read errors wants xs i x old.tally w.with-gathered.result.tally new.tally (w.seen.result ∷ []) c.loop-argument-test.true c.argument-item.is (ap tally_of w.gathered-is) w.with-gathered.ensures.tally
                (ap alone (w.seen.ensures ∙ ap (as_seen errors) w.look-entry.ensures.value) ∙ stands_cell shape read errors x w.in-Reference.cell w.in-Reference.is) (c.loop-argument.invariant.tally (omega (arith, l, m)));
            height = formulas_more shape heights (count_of shape) old.height w.look-entry.result.height new.height xs i x c.loop-argument-test.true c.argument-item.is c.loop-argument.invariant.height
                (w.look-entry.ensures.height ∙ ap (λ (g : Formula). min (count_of shape) (formula_height shape heights g)) (sym f)) m;
          }
      | gather-in-Range w ↦
          let f = ap formula w.in-Range.is ∙ formula_range w.in-Range.area in
          let m = ap height_of w.gathered-is ∙ w.with_range-gathered.ensures.height in
          record {
            count = omega (arith, w.with_range-gathered.ensures.count, ap count_in w.gathered-is);
            tally = λ l.
                gathered shape read errors wants xs i x old.tally w.with_range-gathered.result.tally new.tally _ c.loop-argument-test.true c.argument-item.is (ap tally_of w.gathered-is)
                (w.with_range-gathered.ensures.tally (omega (arith, l, ap height_of w.gathered-is)))
                (stands_range shape read errors x w.in-Range.area w.in-Range.is) (c.loop-argument.invariant.tally (omega (arith, l, m)));
            height = formulas_more shape heights (count_of shape) old.height _ new.height xs i x c.loop-argument-test.true c.argument-item.is c.loop-argument.invariant.height
                (ap (λ (g : Formula). min (count_of shape) (formula_height shape heights g)) (sym f)) m;
          }
      | gather-in-Number w ↦
          let m = ap height_of w.gathered-is ∙ w.with-gathered-in-Number.ensures.height in
          record {
            count = omega (arith, w.with-gathered-in-Number.ensures.count, ap count_in w.gathered-is);
            tally = λ l.
                gathered shape read errors wants xs i x old.tally w.with-gathered-in-Number.result.tally new.tally (w.evaluate-entry.result.value ∷ []) c.loop-argument-test.true c.argument-item.is (ap tally_of w.gathered-is) w.with-gathered-in-Number.ensures.tally
                (ap alone (w.evaluate-entry.ensures.value (omega (arith, l, m))) ∙ elim w.in-Number.is [
                  | inl p ↦ stands_number shape read errors x p.0 p.1
                  | inr q ↦ elim q [
                    | inl p ↦ stands_prefix shape read errors x p.0 p.1 p.2
                    | inr r ↦ elim r [
                      | inl p ↦ stands_binary shape read errors x p.0 p.1 p.2 p.3
                      | inr p ↦ stands_call shape read errors x p.0 p.1 p.2
                    ]
                  ]
                ])
                (c.loop-argument.invariant.tally (omega (arith, l, m)));
            height = formulas_more shape heights (count_of shape) old.height w.evaluate-entry.result.height new.height xs i x c.loop-argument-test.true c.argument-item.is c.loop-argument.invariant.height
                w.evaluate-entry.ensures.height m;
          }
    ]
