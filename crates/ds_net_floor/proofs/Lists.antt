-- A list of edits is looked through from its end.
use Rattle.std.proofs.Common.{◌≡◌, ◌≤◌, ◌++◌, ℕ, List, Some, Result, Ok, Err, IfOk}
use Rattle.std.specs.Prelude.{Vec}
use Rattle.std.specs.Global.{Global}
use Rattle.ds_formula.specs.declared.cells.Cell.{Cell}
use Rattle.ds_server.specs.Replies.{EditEntry}
use Rattle.ds_net_floor.specs.EditLists.{HasNoEdit, HasText, IsLastOf, NoneOf}

-- these edits are left of a list, and none after them is of the cell
pub record AreLeft (cell : Cell) (list rest : List EditEntry) : Type 0 where
  pub after : List EditEntry
  pub splits : list ≡ rest ++ after
  pub none : NoneOf cell after

-- the text of the last edit of the cell, where it is copied
pub has_text : {E : Type 0} (cell : Cell) (list before : List EditEntry) (edit : EditEntry) (copy : Result (Vec ℕ Global) E) → IsLastOf cell list before edit → IfOk copy (λ t. t.items ≡ edit.text)
    → IfOk copy (λ t. HasText cell list t.items)
has_text cell list before edit (Ok text) last same = record { last = Some edit; tells = (before, last); text_is = same }
has_text cell list before edit (Err why) last same = same

-- the last edit of the cell is nobody's
pub no_edit : (nobody : ℕ) (cell : Cell) (list before : List EditEntry) (edit : EditEntry) → IsLastOf cell list before edit → nobody ≤ edit.process → HasNoEdit nobody cell list
no_edit nobody cell list before edit last by = record { last = Some edit; tells = (before, last); by_nobody = by }
