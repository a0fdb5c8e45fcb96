-- What is kept while all cells are evaluated again and again: private functions' contracts cite these words.
use Rattle.std.specs.Prelude.{◌≡◌, ℕ, ◌<◌, ◌≤◌, List, length, map}
use Rattle.ds_formula.specs.declared.cells.Shape.{Shape}
use Rattle.ds_formula.specs.declared.cells.Cell.{Cell}
use Rattle.ds_formula.specs.Cells.{IsInside, cell_at, count_of}
use Rattle.ds_formula.specs.Plain.{PlainContent}
use Rattle.ds_eval.specs.declared.value.Value.{Value}
use Rattle.ds_eval.specs.declared.value.Value.TheVariants.{Circular}
use Rattle.ds_eval.specs.declared.inputs.Entry.{Entry}
use Rattle.ds_eval.specs.declared.inputs.Input.{Input}
use Rattle.ds_eval.specs.Inputs.{cell_in, entry_in}
use Rattle.ds_eval.specs.Scratch.{Walk, value}

-- an entry for each cell of the sheet, row by row from the left
pub record IsTable (shape : Shape) (table : List Input) : Type 0 where
  pub each : length table ≡ count_of shape
  pub cells : (k : ℕ) → k < count_of shape → cell_in table k ≡ cell_at shape k

-- what is known of a cell's entry after n rounds, whatever the first entries were
pub record IsSettled (shape : Shape) (sheet : Cell → PlainContent) (n : ℕ) (entry : Entry) (c : Cell) : Type 0 where
  pub sound : (Walk shape sheet n c → ⊥) → (k : ℕ) → k ≤ entry.height → Walk shape sheet k c
  pub complete : (k : ℕ) → k ≤ n → k ≤ count_of shape → Walk shape sheet k c → k ≤ entry.height
  pub circular : 1 ≤ n → count_of shape ≤ entry.height → entry.value ≡ Circular
  pub computed : (Walk shape sheet n c → ⊥) → entry.value ≡ value shape sheet n c

-- what is known of the entries of all cells after n rounds
pub record AreSettled (shape : Shape) (sheet : Cell → PlainContent) (n : ℕ) (table : List Input) : Type 0 where
  pub each : (c : Cell) → IsInside shape c → IsSettled shape sheet n (entry_in table c) c

-- the value of an entry
abbrev pub value_of_input : Input → Value
value_of_input input = input.entry.value

-- the values of all entries, in their order
abbrev pub shown : List Input → List Value
shown table = map value_of_input table
