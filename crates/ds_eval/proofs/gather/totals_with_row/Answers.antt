use Rattle.std.proofs.Common.{rules, ◌≡◌, ◌∙◌, ℕ, Bool, true, false, if◌then◌else◌, ◌+◌, ◌++◌, ◌∷◌, [], List, map, w64, to_z, of_z, sym, ap, subst, arith}
use Rattle.std.proofs.lemmas.Int.{ints, clamps, to_z-of_z}
use Rattle.ds_formula.specs.declared.cells.Cell.{Cell}
use Rattle.ds_eval.specs.declared.value.Value.{Value}
use Rattle.ds_eval.specs.declared.value.Value.TheVariants.{Blank}
use Rattle.ds_eval.specs.declared.tally.CellErrors.{CellErrors}
use Rattle.ds_eval.specs.declared.inputs.Entry.{Entry}
use Rattle.ds_eval.specs.declared.tally.Totals.{Totals}
use Rattle.ds_eval.specs.Numbers.{first_error}
use Rattle.ds_eval.specs.Rows.{right_of, row_from, seen_in}
use Rattle.ds_eval.specs.Tally.{AreCounted}
use Rattle.ds_eval.specs.Evaluation.{as_seen}
use Rattle.ds_eval.proofs.Rows.{row_values, error_in_row}
use Rattle.ds_eval.proofs.Tallies.{NoGreater, NoLess, IsMore, number_counted, blank_counted, number_error, blank_error, is_error, first_here}
use Rattle.ds_eval.proofs.gather.totals_with_row.Goals as goal
use Rattle.ds_eval.proofs.gather.totals_with_row.Goals.{in-Number, in-Blank, in-DivZero+else-heeds}

-- one more cell of the row, which shows this value
one_more : (read : Cell → Value) (vs : List Value) (first : Cell) (k : ℕ) (v : Value) → v ≡ read (right_of first k) → (vs ++ map read (row_from first k)) ++ v ∷ [] ≡ vs ++ map read (row_from first (k + 1))
one_more read vs first k v e = ap (λ (x : Value). (vs ++ map read (row_from first k)) ++ x ∷ []) e ∙ row_values read vs first k

-- an error that is skipped is a blank, and one that is heeded is itself
passed : (errors : CellErrors) (b : Bool) (v u : Value) → b ≡ false → as_seen errors v ≡ (if b then v else Blank) → v ≡ u → Blank ≡ as_seen errors u
passed errors b v u f e h = sym (e ∙ ap (λ (t : Bool). if t then v else Blank) f) ∙ ap (as_seen errors) h

heeded : (errors : CellErrors) (b : Bool) (v u : Value) → b ≡ true → as_seen errors v ≡ (if b then v else Blank) → v ≡ u → v ≡ as_seen errors u
heeded errors b v u f e h = sym (e ∙ ap (λ (t : Bool). if t then v else Blank) f) ∙ ap (as_seen errors) h

pub loop-k-preserved : goal.loop-k-preserved
loop-k-preserved c =
    let read = seen_in c.args.fold.errors c.args.inputs.now.items in
    let first = c.args.first in
    let k = c.loop-k.k in
    let here = ap (λ (e : Entry). e.value) c.entry_right_of-value.ensures in
    elim c.match-value.branch [
      | in-Number w ↦
          let e = w.with-sum.ensures in
          let z = w.in-Number.number in
          let q : to_z w64 (of_z w64 z) ≡ z = to_z-of_z w64 _ (search rules) in
          let f : NoGreater (to_z w64 (of_z w64 z)) = omega (arith, ints, clamps) in
          let g : NoLess (to_z w64 (of_z w64 z)) = omega (arith, ints, clamps) in
          let m : IsMore c.args.fold.wants z c.loop-k.sum w.with-sum.result = record { y = to_z w64 (of_z w64 z); same = q; no_greater = f; no_less = g; count = e.count; zeros = e.zeros; sum = e.sum; least = e.least; greatest = e.greatest } in
          let v = ap (as_seen c.args.fold.errors) (sym w.in-Number.is ∙ here) in
          record {
            counted = λ vs t. rw w.sum-is (subst (λ (ws : List Value). AreCounted c.args.fold.wants ws w.with-sum.result) (one_more read vs first k _ v) (number_counted c.args.fold.wants _ z c.loop-k.sum w.with-sum.result m (c.loop-k.invariant.counted vs t)));
            no_error = λ vs t. sym (ap first_error (one_more read vs first k _ v)) ∙ number_error (vs ++ map read (row_from first k)) z ∙ c.loop-k.invariant.no_error vs t;
            count = let n = ap (λ (s : Totals). s.count) w.sum-is in omega (arith, n, e.count, c.loop-k.invariant.count);
          }
      | in-Blank w ↦
          let v = ap (as_seen c.args.fold.errors) (sym w.in-Blank.is ∙ here) in
          record {
            counted = λ vs t. rw w.sum-is (subst (λ (ws : List Value). AreCounted c.args.fold.wants ws c.loop-k.sum) (one_more read vs first k _ v) (blank_counted c.args.fold.wants _ c.loop-k.sum (c.loop-k.invariant.counted vs t)));
            no_error = λ vs t. sym (ap first_error (one_more read vs first k _ v)) ∙ blank_error (vs ++ map read (row_from first k)) ∙ c.loop-k.invariant.no_error vs t;
            count = let n = ap (λ (s : Totals). s.count) w.sum-is in omega (arith, n, c.loop-k.invariant.count);
          }
      | in-DivZero+else-heeds w ↦
          let v = passed c.args.fold.errors w.heeds.result _ _ w.if-heeds.false w.heeds.ensures here in
          record {
            counted = λ vs t. rw w.sum-is (subst (λ (ws : List Value). AreCounted c.args.fold.wants ws c.loop-k.sum) (one_more read vs first k _ v) (blank_counted c.args.fold.wants _ c.loop-k.sum (c.loop-k.invariant.counted vs t)));
            no_error = λ vs t. sym (ap first_error (one_more read vs first k _ v)) ∙ blank_error (vs ++ map read (row_from first k)) ∙ c.loop-k.invariant.no_error vs t;
            count = let n = ap (λ (s : Totals). s.count) w.sum-is in omega (arith, n, c.loop-k.invariant.count);
          }
    ]

pub returns-then-heeds-clause-error : goal.returns-then-heeds-clause-error
returns-then-heeds-clause-error c = λ vs t.
    let read = seen_in c.args.fold.errors c.args.inputs.now.items in
    let first = c.args.first in
    let k = c.loop-k.k in
    let v = c.entry_right_of-value.result.value in
    let here = heeded c.args.fold.errors c.heeds.result v _ c.if-heeds.true c.heeds.ensures (ap (λ (e : Entry). e.value) c.entry_right_of-value.ensures) in
    error_in_row read vs first (k + 1) c.args.columns v (omega (arith, c.loop-k-test.true))
    (sym (ap first_error (one_more read vs first k v here)) ∙ first_here (vs ++ map read (row_from first k)) v (is_error v c.in-DivZero.is) (c.loop-k.invariant.no_error vs t))

pub returns-clause-counted : goal.returns-clause-counted
returns-clause-counted c = λ vs t.
    let e : c.loop-k.k ≡ c.args.columns = omega (arith, c.loop-k-test.false, c.loop-k.auto.k-end) in
    subst (λ (n : ℕ). AreCounted c.args.fold.wants (vs ++ map (seen_in c.args.fold.errors c.args.inputs.now.items) (row_from c.args.first n)) c.loop-k.sum) e (c.loop-k.invariant.counted vs t)
