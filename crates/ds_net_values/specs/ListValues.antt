-- The values of a sheet after a list of edits.
use Rattle.std.specs.Prelude.{ℕ, suc, List, [], ◌∷◌, ◌++◌}
use Rattle.ds_formula.specs.declared.cells.Shape.{Shape}
use Rattle.ds_formula.specs.Cells.{cell_at, count_of}
use Rattle.ds_eval.specs.declared.value.Value.{Value}
use Rattle.ds_text_values.specs.TextValues.{IsEvaluated}
use Rattle.ds_server.specs.Replies as said
use Rattle.ds_net_floor.specs.EditLists.{HasText}

-- the texts of the first n cells after these edits, where no cell had a text before them
pub data AreTexts (shape : Shape) (list : List said.EditEntry) : ℕ → List (List ℕ) → Type 0 where
  no_text : AreTexts shape list 0 []
  one_text_more : (n : ℕ) (texts : List (List ℕ)) (text : List ℕ) → AreTexts shape list n texts → HasText (cell_at shape n) list text → AreTexts shape list (suc n) (texts ++ text ∷ [])

-- the values of all cells after these edits, from scratch
pub record AreValues (shape : Shape) (list : List said.EditEntry) (values : List Value) : Type 0 where
  pub texts : List (List ℕ)
  pub are : AreTexts shape list (count_of shape) texts
  pub evaluated : IsEvaluated shape texts values
