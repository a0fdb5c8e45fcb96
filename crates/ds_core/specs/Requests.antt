-- An edit that is asked for.
use Rattle.std.specs.Prelude.{ℕ, List}
use Rattle.ds_formula.specs.declared.cells.Cell.{Cell}

-- an edit that is asked for: its process, its cell, and the bytes of its text
pub record PlainRequest : Type 0 where
  pub process : ℕ
  pub cell : Cell
  pub text : List ℕ
