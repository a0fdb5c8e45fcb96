use Rattle.std.proofs.Common.{◌≡◌, ◌+◌, ◌≤◌, List, ◌++◌, map, None}
use Rattle.ds_eval.specs.declared.value.Value.{Value}
use Rattle.ds_eval.specs.Numbers.{first_error}
use Rattle.ds_eval.specs.Rows.{row_from, seen_in}
use Rattle.ds_eval.specs.Tally.{AreCounted}
use Rattle.ds_eval.proofs.gather.totals_with_row.Given as goal

abbrev pub invariant-loop-k : goal.invariant-loop-k
invariant-loop-k l = record {
  counted : (vs : List Value) → AreCounted l.fold.wants vs l.initial.sum → AreCounted l.fold.wants (vs ++ map (seen_in l.fold.errors l.inputs.items) (row_from l.first l.k)) l.sum;
  no_error : (vs : List Value) → first_error vs ≡ None → first_error (vs ++ map (seen_in l.fold.errors l.inputs.items) (row_from l.first l.k)) ≡ None;
  count : l.sum.count ≤ l.initial.sum.count + l.k;
}
