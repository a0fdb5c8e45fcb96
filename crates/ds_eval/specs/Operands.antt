-- Functions of a few values, and of many: private functions' contracts cite these words.
use Rattle.std.specs.Prelude.{◌≡◌, ℕ, zero, suc, List}
use Rattle.ds_formula.specs.declared.cells.Shape.{Shape}
use Rattle.ds_formula.specs.declared.cells.Cell.{Cell}
use Rattle.ds_formula.specs.declared.content.Function.{Function}
use Rattle.ds_formula.specs.declared.content.Function.TheVariants as functions
use Rattle.ds_formula.specs.Plain.{Formulas, Nothing, Then}
use Rattle.ds_eval.specs.declared.tally.CellErrors.{CellErrors}
use Rattle.ds_eval.specs.declared.tally.CellErrors.TheVariants.{Heeded, Skipped}
use Rattle.ds_eval.specs.declared.tally.Wants.{Wants}
use Rattle.ds_eval.specs.declared.tally.Wants.TheVariants as wanted
use Rattle.ds_eval.specs.declared.evaluate.Operands.{Operands}
use Rattle.ds_eval.specs.Evaluation.{Argument, operand}
use Rattle.ds_eval.specs.Local.{formula_height}

-- what a function makes of the errors of cells: COUNT alone skips them
abbrev pub errors_of : Function → CellErrors
errors_of functions.Count = Skipped
errors_of other = Heeded

-- what a function wants of the numbers among many values
abbrev pub wants_of : Function → Wants
wants_of functions.Sum = wanted.Sum
wants_of functions.Min = wanted.Least
wants_of functions.Max = wanted.Greatest
wants_of functions.And = wanted.Zeros
wants_of functions.Or = wanted.Zeros
wants_of other = wanted.Count

-- one more than the greatest height of a cell written in the argument with this number, 0 where it is left out
abbrev pub operand_height : Shape → (Cell → ℕ) → ℕ → Formulas → ℕ
operand_height shape heights n Nothing = 0
operand_height shape heights zero (Then f fs) = formula_height shape heights f
operand_height shape heights (suc n) (Then f fs) = operand_height shape heights n fs

-- these are the values of the arguments
pub record AreOperands (all : List Argument) (operands : Operands) : Type 0 where
  pub first : operands.first ≡ operand 0 all
  pub second : operands.second ≡ operand 1 all
  pub third : operands.third ≡ operand 2 all
