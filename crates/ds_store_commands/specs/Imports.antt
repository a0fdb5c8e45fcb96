-- The lines of a store that is made.
use Rattle.std.specs.Prelude.{ℕ, List}
use Rattle.ds_a1.specs.declared.notation.Notation.{Notation}
use Rattle.ds_layout.specs.declared.layout.Layout.{Layout}
use Rattle.ds_store.specs.GoingOver.{GoesOver}
use Rattle.ds_store.specs.Opened.{Leads}
use Rattle.ds_store.specs.declared.seated.SeatedSheet.{SeatedSheet}
use Rattle.ds_store_keys.specs.Keys.{StandOnce, keys_of}
use Rattle.ds_store_commands.specs.Exports.{RowsOpen}
use Rattle.ds_store_commands.specs.Tables.{HaveSameTexts}

-- the lines can be followed: they are a journal whose edits have made a sheet, and each key stands once
pub record AreFollowed (lines : List (List ℕ)) : Type 0 where
  pub layout : Layout
  pub counts : List ℕ
  pub sheet : SeatedSheet
  pub leads : Leads layout counts sheet lines
  pub once : StandOnce (keys_of layout lines)

-- the lines go on where those have ended that give each cell the text that a grid in this notation has for it
pub record AreOfGrid (notation : Notation) (grid : List (List (List ℕ))) (lines : List (List ℕ)) : Type 0 where
  pub rows : List (List (List ℕ))
  pub opened : RowsOpen notation grid rows
  pub begun : List (List ℕ)
  pub same : HaveSameTexts rows begun
  pub over : GoesOver begun lines
