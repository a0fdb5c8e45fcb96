-- What a receipt is to a clause.
use Rattle.std.specs.Prelude.{ℕ, List}
use Rattle.ds_formula.specs.declared.cells.Cell.{Cell}

-- an edit that was answered Done: the process, the number, the cell and the text
pub record PlainReceipt : Type 0 where
  pub process : ℕ
  pub number : ℕ
  pub cell : Cell
  pub text : List ℕ
