-- Cells of a sheet and their numbers.
use Rattle.std.specs.Prelude.{ℕ, ◌+◌, ◌*◌, ◌/◌, ◌%◌, ◌<◌, ◌≤◌}
use Rattle.ds_formula.specs.declared.cells.Shape.{Shape}
use Rattle.ds_formula.specs.declared.cells.Cell.{Cell}
use Rattle.ds_formula.specs.declared.cells.Rect.{Rect}

-- how many cells the sheet has
abbrev pub count_of : Shape → ℕ
count_of shape = shape.columns * shape.rows

-- the cell is one of the sheet
pub record IsInside (shape : Shape) (cell : Cell) : Type 0 where
  pub column : cell.column < shape.columns
  pub row : cell.row < shape.rows

-- the number of a cell, row by row from the left
abbrev pub index_of : Shape → Cell → ℕ
index_of shape cell = cell.row * shape.columns + cell.column

-- the cell of the sheet with this number, row by row from the left
abbrev pub cell_at : Shape → ℕ → Cell
cell_at shape index = record { column = index % shape.columns; row = index / shape.columns }

-- the cell is one between the corners
pub record IsWithin (area : Rect) (cell : Cell) : Type 0 where
  pub from_left : area.first.column ≤ cell.column
  pub to_right : cell.column ≤ area.last.column
  pub from_top : area.first.row ≤ cell.row
  pub to_bottom : cell.row ≤ area.last.row
