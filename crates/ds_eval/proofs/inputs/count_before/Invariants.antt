use Rattle.std.proofs.Common.{ℕ, ◌<◌, ◌≤◌, ◌-◌, length}
use Rattle.ds_formula.specs.Refs.{IsBefore}
use Rattle.ds_eval.specs.Inputs.{cell_in}
use Rattle.ds_eval.proofs.inputs.count_before.Given as goal

abbrev pub invariant-loop-low : goal.invariant-loop-low
invariant-loop-low l = record {
  within : l.high ≤ length l.inputs;
  low : l.low ≤ l.high;
  before : (k : ℕ) → k < l.low → IsBefore (cell_in l.inputs k) l.cell;
  not_before : (k : ℕ) → l.high ≤ k → k < length l.inputs → ¬ IsBefore (cell_in l.inputs k) l.cell;
}

abbrev pub decreases-loop-low : goal.decreases-loop-low
decreases-loop-low l = l.high - l.low
