use Rattle.std.proofs.Common.{◌≡◌, ◌+◌, ◌*◌, ◌<◌, ◌≤◌, min, max, List, ◌++◌, map}
use Rattle.ds_formula.specs.Cells.{count_of}
use Rattle.ds_eval.specs.declared.value.Value.{Value}
use Rattle.ds_eval.specs.Evaluation.{first_cells}
use Rattle.ds_eval.specs.Inputs.{heights_in}
use Rattle.ds_eval.specs.Local.{above}
use Rattle.ds_eval.specs.Rows.{seen_in}
use Rattle.ds_eval.specs.Tally.{IsTally}
use Rattle.ds_eval.proofs.gather.with_range.Given as goal

abbrev pub invariant-loop-row : goal.invariant-loop-row
invariant-loop-row l = record {
  tally : l.sum.height < count_of l.fn.shape → (vs : List Value) → IsTally l.fold.wants vs l.initial.sum.tally → IsTally l.fold.wants (vs ++ map (seen_in l.fold.errors l.inputs.items) (first_cells l.area l.columns (l.columns * l.row))) l.sum.tally;
  count : l.sum.tally.totals.count ≤ l.initial.sum.tally.totals.count + 26 * l.row;
  height : l.sum.height ≡ max l.initial.sum.height (min (count_of l.fn.shape) (above (map (heights_in l.inputs.items) (first_cells l.area l.columns (l.columns * l.row)))));
}
