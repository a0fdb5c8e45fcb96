-- What is asked for of a store's sheet.
use Rattle.std.specs.Prelude.{ℕ, ◌≡◌, Option, None, Some, List, ◌∷◌, take}
use Rattle.ds_formula.specs.declared.cells.Cell.{Cell}
use Rattle.ds_formula.specs.declared.cells.Shape.{Shape}
use Rattle.ds_formula.specs.Names.{cell_named}
use Rattle.ds_store_commands.specs.declared.tables.Cells.{Cells}
use Rattle.ds_store_commands.specs.Logs.{HaveFirst}
use Rattle.ds_store_commands.specs.Tables.{IsCellTable, IsTableOf}

-- the cell alone that is asked for by its name, in a sheet of this shape; none without a name
abbrev pub IsAskedBy : Shape → Option (List ℕ) → Option Cell → Type 0
IsAskedBy shape None only = only ≡ None
IsAskedBy shape (Some name) only = (cell : Cell) × (only ≡ Some cell) × (cell_named shape name ≡ Some cell)

-- a sheet of this shape has no cell of the name that is asked for
abbrev pub HasNoCell : Shape → Option (List ℕ) → Type 0
HasNoCell shape None = ⊥
HasNoCell shape (Some name) = cell_named shape name ≡ None

-- what is shown of a table: its field for one cell alone, where that is asked for
abbrev pub IsPartOf : Option Cell → List ℕ → List ℕ → Type 0
IsPartOf None table shown = shown ≡ table
IsPartOf (Some cell) table shown = IsCellTable cell table shown

-- what is shown of the sheet of these lines as it was after this number of edits: of the table of the first line, which makes
-- the sheet, and of the lines after it that have the first edits
pub record IsShownAt (cells : Cells) (lines : List (List ℕ)) (edits : ℕ) (only : Option Cell) (shown : List ℕ) : Type 0 where
  pub first : List ℕ
  pub rest : List (List ℕ)
  pub are : lines ≡ first ∷ rest
  pub count : ℕ
  pub have : HaveFirst edits rest count
  pub table : List ℕ
  pub is : IsTableOf cells (first ∷ take count rest) table
  pub part : IsPartOf only table shown
