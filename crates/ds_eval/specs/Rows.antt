-- Rows of a range: private functions' contracts cite these words.
use Rattle.std.specs.Prelude.{ℕ, zero, suc, ◌+◌, List, [], ◌∷◌, ◌++◌}
use Rattle.ds_formula.specs.declared.cells.Cell.{Cell}
use Rattle.ds_eval.specs.declared.value.Value.{Value}
use Rattle.ds_eval.specs.declared.inputs.Input.{Input}
use Rattle.ds_eval.specs.declared.tally.CellErrors.{CellErrors}
use Rattle.ds_eval.specs.Inputs.{values_in}
use Rattle.ds_eval.specs.Evaluation.{as_seen}

-- the cell n columns to the right
abbrev pub right_of : Cell → ℕ → Cell
right_of first k = record { column = first.column + k; row = first.row }

-- the cell and those to its right, n of them
abbrev pub row_from : Cell → ℕ → List Cell
row_from first zero = []
row_from first (suc k) = row_from first k ++ right_of first k ∷ []

-- the values of the cells, as a function sees them
abbrev pub seen_in : CellErrors → List Input → Cell → Value
seen_in errors items cell = as_seen errors (values_in items cell)
