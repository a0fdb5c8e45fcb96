use Rattle.std.proofs.Common.{◌≡◌, ◌∙◌, ℕ, ◌+◌, ◌*◌, ◌++◌, List, map, ap, sym, subst, refl, arith, append-nil}
use Rattle.ds_formula.specs.declared.cells.Cell.{Cell}
use Rattle.ds_eval.specs.declared.value.Value.{Value}
use Rattle.ds_eval.specs.declared.gather.Gathered.{Gathered}
use Rattle.ds_eval.specs.Evaluation.{width, height, first_cells}
use Rattle.ds_eval.specs.Inputs.{heights_in}
use Rattle.ds_eval.specs.Rows.{seen_in}
use Rattle.ds_eval.specs.Tally.{IsTally}
use Rattle.ds_eval.proofs.Rows.{rows_values, rows_height}
use Rattle.ds_eval.proofs.gather.with_range.Goals as goal
use Rattle.ds_eval.proofs.gather.with_range.Goals.{then-sum-most, else-sum-most}

abbrev height_of : Gathered → ℕ
height_of g = g.height

abbrev count_in : Gathered → ℕ
count_in g = g.tally.totals.count

pub loop-row-preserved : goal.loop-row-preserved
loop-row-preserved c =
    let read = seen_in c.args.fold.errors c.args.inputs.now.items in
    let heights = heights_in c.args.inputs.now.items in
    let area = c.args.area in
    let columns = c.width-columns.result in
    let row = c.loop-row.row in
    let first : Cell = record { column = area.first.column; row = area.first.row + row } in
    let more = rows_height heights area columns row first refl in
    elim c.if-sum-most.branch [
      | then-sum-most w ↦
          let s = ap height_of w.sum-is in
          let n = ap count_in w.sum-is in
          record {
            tally = λ l vs t.
                subst (λ (g : Gathered). IsTally c.args.fold.wants (vs ++ map read (first_cells area columns (columns * (row + 1)))) g.tally) (sym w.sum-is)
                (subst (λ (ws : List Value). IsTally c.args.fold.wants ws w.with_row-sum.result.tally) (rows_values read vs area columns row first refl)
                (w.with_row-sum.ensures.tally _ (c.loop-row.invariant.tally (omega (arith, w.if-sum-most.true, c.count-most.ensures.value)) vs t)));
            count = omega (arith, n, w.with_row-sum.ensures.count, c.loop-row.invariant.count, c.width-columns.ensures.within);
            height = omega (arith, s, more, w.with_row-sum.ensures.height, c.loop-row.invariant.height, c.count-most.ensures.value);
          }
      | else-sum-most w ↦
          let s = ap height_of w.sum-is in
          let n = ap count_in w.sum-is in
          record {
            tally = λ l. absurd (omega (arith, l, s, w.if-sum-most.false, c.count-most.ensures.value));
            count = omega (arith, n, c.loop-row.invariant.count);
            height = omega (arith, s, more, w.if-sum-most.false, c.loop-row.invariant.height, c.count-most.ensures.value, c.requires.height);
          }
    ]

pub returns-then-columns-eq0-clause-tally : goal.returns-then-columns-eq0-clause-tally
returns-then-columns-eq0-clause-tally c = λ l vs t.
    let n : 0 ≡ width c.args.shape c.args.area * height c.args.shape c.args.area = let z : 0 ≡ 0 * height c.args.shape c.args.area = omega arith in z ∙ ap (λ (x : ℕ). x * height c.args.shape c.args.area) (sym c.if-columns-eq0.true ∙ c.width-columns.ensures.value) in
    subst (λ (k : ℕ). IsTally c.args.fold.wants (vs ++ map (seen_in c.args.fold.errors c.args.inputs.now.items) (first_cells c.args.area (width c.args.shape c.args.area) k)) c.args.gathered.tally) n
    (subst (λ (ws : List Value). IsTally c.args.fold.wants ws c.args.gathered.tally) (sym (append-nil vs)) t)

pub returns-clause-tally : goal.returns-clause-tally
returns-clause-tally c = λ l vs t.
    let r : c.loop-row.row ≡ height c.args.shape c.args.area = omega (arith, c.loop-row-test.false, c.loop-row.auto.row-end, c.height-rows.ensures.value) in
    let f = c.loop-row.invariant.tally l vs t in
    subst (λ (k : ℕ). IsTally c.args.fold.wants (vs ++ map (seen_in c.args.fold.errors c.args.inputs.now.items) (first_cells c.args.area k (k * height c.args.shape c.args.area))) c.loop-row.sum.tally) c.width-columns.ensures.value
    (subst (λ (k : ℕ). IsTally c.args.fold.wants (vs ++ map (seen_in c.args.fold.errors c.args.inputs.now.items) (first_cells c.args.area c.width-columns.result (c.width-columns.result * k))) c.loop-row.sum.tally) r f)
