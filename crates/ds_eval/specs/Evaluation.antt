-- The value of a formula where the values of the cells are known (OpenFormula 6, our profile).
use Rattle.std.specs.Prelude.{ℕ, zero, suc, ◌+◌, ◌-◌, ◌*◌, ◌/◌, ◌%◌, min, nat_lt, nat_le, pos, Bool, ◌&&◌, if◌then◌else◌, List, [], ◌∷◌, ◌++◌, map, length}
use Rattle.std.specs.Ordering.{int_eq}
use Rattle.ds_formula.specs.declared.cells.Shape.{Shape}
use Rattle.ds_formula.specs.declared.cells.Cell.{Cell}
use Rattle.ds_formula.specs.declared.cells.Rect.{Rect}
use Rattle.ds_formula.specs.declared.content.Function.{Function}
use Rattle.ds_formula.specs.declared.content.Function.TheVariants as functions
use Rattle.ds_formula.specs.Functions.{all_functions, knows, takes, takes_ranges}
use Rattle.ds_formula.specs.Plain.{Formula, Literal, At, Area, Signed, Joined, Called, Formulas, Nothing, Then, PlainContent, Empty, Constant, Computed, count}
use Rattle.ds_eval.specs.declared.value.Value.{Value}
use Rattle.ds_eval.specs.declared.value.Value.TheVariants.{Blank, Number, DivZero, Num, Circular}
use Rattle.ds_eval.specs.declared.tally.CellErrors.{CellErrors}
use Rattle.ds_eval.specs.declared.tally.CellErrors.TheVariants.{Heeded, Skipped}
use Rattle.ds_eval.specs.Numbers.{with_number, with_numbers, with_all, signed, joined, in_range, absolute, modulo, quotient, total, least, greatest, truth, all_true, some_true, negated}

-- ---- what is read of the sheet

-- whether the cell is one of the sheet
abbrev pub is_inside : Shape → Cell → Bool
is_inside shape cell = nat_lt cell.column shape.columns && nat_lt cell.row shape.rows

-- the value of a cell: outside of the sheet all is blank
abbrev pub look : Shape → (Cell → Value) → Cell → Value
look shape read cell = if is_inside shape cell then read cell else Blank

-- how many columns of the sheet a range has
abbrev pub width : Shape → Rect → ℕ
width shape area = min (area.last.column + 1) shape.columns - area.first.column

-- how many rows of the sheet a range has
abbrev pub height : Shape → Rect → ℕ
height shape area = min (area.last.row + 1) shape.rows - area.first.row

-- the cell with this number of a range that is n columns wide, row by row from the left
abbrev pub cell_of : Rect → ℕ → ℕ → Cell
cell_of area columns k = record { column = area.first.column + k % columns; row = area.first.row + k / columns }

-- n cells of a range that is m columns wide, row by row from the left
abbrev pub first_cells : Rect → ℕ → ℕ → List Cell
first_cells area columns zero = []
first_cells area columns (suc k) = first_cells area columns k ++ cell_of area columns k ∷ []

-- the cells of the sheet in a range, row by row from the left
abbrev pub cells_of : Shape → Rect → List Cell
cells_of shape area = first_cells area (width shape area) (width shape area * height shape area)

-- ---- arguments

-- what an argument is to a function: a value of its own, or the values of cells, row by row from the left
pub data Argument : Type 0 where
  Own : Value → Argument
  Cells : List Value → Argument

-- an argument by its expression and its own value: where ranges are taken, a reference or a range is its cells
abbrev pub argument_of : Bool → Shape → (Cell → Value) → Formula → Value → Argument
argument_of ranges shape read (At c) own = if ranges then Cells (look shape read c ∷ []) else Own own
argument_of ranges shape read (Area area) own = if ranges then Cells (map read (cells_of shape area)) else Own own
argument_of ranges shape read other own = Own own

-- an error where errors are heeded, else a blank
abbrev pub if_heeded : CellErrors → Value → Value
if_heeded Heeded error = error
if_heeded Skipped error = Blank

-- a cell's value to a function: `#DIV/0!` and `#NUM!` may be skipped, Err:522 never
abbrev pub as_seen : CellErrors → Value → Value
as_seen errors Blank = Blank
as_seen errors (Number z) = Number z
as_seen errors DivZero = if_heeded errors DivZero
as_seen errors Num = if_heeded errors Num
as_seen errors Circular = Circular

-- the values of an argument
abbrev pub values_of : CellErrors → Argument → List Value
values_of errors (Own v) = v ∷ []
values_of errors (Cells vs) = map (as_seen errors) vs

-- the values of arguments, in reading order
abbrev pub all_values : CellErrors → List Argument → List Value
all_values errors [] = []
all_values errors (a ∷ rest) = values_of errors a ++ all_values errors rest

-- the argument's own value; cells have none
abbrev pub own_value : Argument → Value
own_value (Own v) = v
own_value (Cells vs) = Num

-- the own value of the argument with this number, 0 where it is left out
abbrev pub operand : ℕ → List Argument → Value
operand n [] = Number (pos 0)
operand zero (a ∷ rest) = own_value a
operand (suc n) (a ∷ rest) = operand n rest

-- ---- formulas

-- IF (OpenFormula 6.15.4): the branch that the condition chooses, or the error of the condition
abbrev pub chosen : Value → Value → Value → Value
chosen condition then_value else_value = with_number condition (λ z. if int_eq z (pos 0) then else_value else then_value)

-- the value of a function of its arguments. COUNT skips errors in cells, and no other one
abbrev pub applied : Function → List Argument → Value
applied functions.Sum all = with_all (all_values Heeded all) (λ ns. in_range (total ns))
applied functions.Min all = with_all (all_values Heeded all) (λ ns. Number (least ns))
applied functions.Max all = with_all (all_values Heeded all) (λ ns. Number (greatest ns))
applied functions.Abs all = with_number (operand 0 all) absolute
applied functions.Mod all = with_numbers (operand 0 all) (operand 1 all) modulo
applied functions.Quotient all = with_numbers (operand 0 all) (operand 1 all) quotient
applied functions.If all = chosen (operand 0 all) (operand 1 all) (operand 2 all)
applied functions.Count all = with_all (all_values Skipped all) (λ ns. in_range (pos (length ns)))
applied functions.And all = with_all (all_values Heeded all) (λ ns. truth (all_true ns))
applied functions.Or all = with_all (all_values Heeded all) (λ ns. truth (some_true ns))
applied functions.Not all = with_number (operand 0 all) negated

-- no function is computed of more arguments than these (the reader gives no more than 63)
abbrev pub most_arguments : ℕ
most_arguments = 255

-- whether a function of the list is called with as many arguments as it takes (the reader gives no other call)
abbrev pub is_computed : List Function → Function → ℕ → Bool
is_computed functions g n = knows functions g && (takes g n && nat_le n most_arguments)

abbrev mutual
  -- the value of a formula, where these functions are known and `read` has the values of the cells
  pub formula_value_with : List Function → Shape → (Cell → Value) → Formula → Value
  formula_value_with functions shape read (Literal z) = Number z
  formula_value_with functions shape read (At c) = with_number (look shape read c) Number
  formula_value_with functions shape read (Area area) = Num
  formula_value_with functions shape read (Signed s f) = with_number (formula_value_with functions shape read f) (signed s)
  formula_value_with functions shape read (Joined o f g) = with_numbers (formula_value_with functions shape read f) (formula_value_with functions shape read g) (joined o)
  formula_value_with functions shape read (Called g fs) = if is_computed functions g (count fs) then applied g (arguments_with functions shape read (takes_ranges g) fs) else Num

  -- the arguments of a function that takes ranges, or takes none
  pub arguments_with : List Function → Shape → (Cell → Value) → Bool → Formulas → List Argument
  arguments_with functions shape read ranges Nothing = []
  arguments_with functions shape read ranges (Then f fs) =
      argument_of ranges shape read f (formula_value_with functions shape read f) ∷ arguments_with functions shape read ranges fs

-- the value of what a cell holds, where these functions are known
abbrev pub content_value_with : List Function → Shape → (Cell → Value) → PlainContent → Value
content_value_with functions shape read Empty = Blank
content_value_with functions shape read (Constant z) = Number z
content_value_with functions shape read (Computed f) = formula_value_with functions shape read f

-- ---- with all functions

-- the value of a formula
abbrev pub formula_value : Shape → (Cell → Value) → Formula → Value
formula_value = formula_value_with all_functions

-- the arguments of a function
abbrev pub arguments : Shape → (Cell → Value) → Bool → Formulas → List Argument
arguments = arguments_with all_functions

-- the value of what a cell holds
abbrev pub content_value : Shape → (Cell → Value) → PlainContent → Value
content_value = content_value_with all_functions
