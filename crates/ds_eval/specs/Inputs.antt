-- Entries of cells, in a list.
use Rattle.std.specs.Prelude.{ℕ, ◌==◌, ◌<◌, ◌&&◌, Bool, if◌then◌else◌, List, [], ◌∷◌, length, slice_index_or, slice_set}
use Rattle.ds_formula.specs.declared.cells.Cell.{Cell}
use Rattle.ds_formula.specs.Refs.{IsBefore}
use Rattle.ds_eval.specs.declared.value.Value.{Value}
use Rattle.ds_eval.specs.declared.value.Value.TheVariants.{Blank}
use Rattle.ds_eval.specs.declared.inputs.Entry.{Entry}
use Rattle.ds_eval.specs.declared.inputs.Input.{Input}

-- the inputs, and how many there is room for
pub record PlainInputs : Type 0 where
  pub items : List Input
  pub room : ℕ

-- what a cell shows that is none of the inputs
abbrev pub no_entry : Entry
no_entry = record { value = Blank; height = 0 }

-- whether the two cells are one
abbrev pub is_same_cell : Cell → Cell → Bool
is_same_cell c d = (c.column == d.column) && (c.row == d.row)

-- the entry of a cell among the inputs
abbrev pub entry_in : List Input → Cell → Entry
entry_in [] c = no_entry
entry_in (input ∷ inputs) c = if is_same_cell input.cell c then input.entry else entry_in inputs c

-- the values of the cells among the inputs
abbrev pub values_in : List Input → Cell → Value
values_in inputs c = (entry_in inputs c).value

-- the heights of the cells among the inputs
abbrev pub heights_in : List Input → Cell → ℕ
heights_in inputs c = (entry_in inputs c).height

-- what stands for an input where there is none
abbrev pub no_input : Input
no_input = record { cell = record { column = 0; row = 0 }; entry = no_entry }

-- the cell of the input with this number
abbrev pub cell_in : List Input → ℕ → Cell
cell_in inputs k = (slice_index_or inputs k no_input).cell

-- the entry of the input with this number
abbrev pub entry_at : List Input → ℕ → Entry
entry_at inputs k = (slice_index_or inputs k no_input).entry

-- another entry for the input with this number
abbrev pub with_entry : List Input → ℕ → Entry → List Input
with_entry inputs k entry = slice_set inputs k (record { cell = cell_in inputs k; entry = entry })

-- the inputs ascend, row by row from the left
pub record IsAscending (inputs : List Input) : Type 0 where
  pub ascend : (j k : ℕ) → j < k → k < length inputs → IsBefore (cell_in inputs j) (cell_in inputs k)

-- the cell is after all inputs
pub record IsBehind (inputs : List Input) (cell : Cell) : Type 0 where
  pub behind : (k : ℕ) → k < length inputs → IsBefore (cell_in inputs k) cell
