-- The limits of a sheet (our own rule).
use Rattle.std.specs.Prelude.{ℕ, ◌*◌, ◌≤◌}
use Rattle.ds_formula.specs.Limits.{COLUMNS_MOST, ROWS_MOST, CELLS_MOST}

-- a sheet may have this many columns and rows
pub record MayHave (columns rows : ℕ) : Type 0 where
  pub some_columns : 1 ≤ columns
  pub columns_to_z : columns ≤ COLUMNS_MOST
  pub some_rows : 1 ≤ rows
  pub rows_to_64 : rows ≤ ROWS_MOST
  pub cells_to_1024 : columns * rows ≤ CELLS_MOST
