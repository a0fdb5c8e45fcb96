use Rattle.std.proofs.Common.{◌≡◌, ◌*◌, ◌<◌, ◌≤◌, true, min, map, take}
use Rattle.ds_formula.specs.Cells.{count_of}
use Rattle.ds_formula.specs.Plain.{formula, listed}
use Rattle.ds_eval.specs.Evaluation.{all_values, arguments}
use Rattle.ds_eval.specs.Inputs.{values_in, heights_in}
use Rattle.ds_eval.specs.Local.{formulas_height}
use Rattle.ds_eval.specs.Tally.{IsTally}
use Rattle.ds_eval.proofs.evaluate.+evaluation.Given as goal

abbrev pub invariant-gather-loop-argument : goal.invariant-gather-loop-argument
invariant-gather-loop-argument l = record {
  count : l.gathered.tally.totals.count ≤ 2048 * l.argument-index;
  tally : l.gathered.height < count_of l.shape → IsTally l.fold.wants (all_values l.fold.errors (arguments l.shape (values_in l.inputs.items) true (listed (map formula (take l.argument-index l.arguments))))) l.gathered.tally;
  height : l.gathered.height ≡ min (count_of l.shape) (formulas_height l.shape (heights_in l.inputs.items) (listed (map formula (take l.argument-index l.arguments))));
}

abbrev pub invariant-unfit-loop-argument : goal.invariant-unfit-loop-argument
invariant-unfit-loop-argument l = l.height ≡ min (count_of l.shape) (formulas_height l.shape (heights_in l.inputs.items) (listed (map formula (take l.argument-index l.arguments))))
