-- How the edits of processes are numbered for their clients, by the lines of a store.
use Rattle.std.specs.Prelude.{◌≡◌, ◌<◌, ◌-◌, ℕ, List, Some, None, true, slice_index_or}
use Rattle.ds_formula.specs.declared.cells.Cell.{Cell}
use Rattle.ds_formula.specs.declared.cells.Shape.{Shape}
use Rattle.ds_formula.specs.Cells.{IsInside, index_of}
use Rattle.ds_layout.specs.declared.layout.Layout.{Layout}
use Rattle.ds_state.specs.declared.recovery.LastEdit.{LastEdit}
use Rattle.ds_store_journal.specs.declared.standing.Standing.{Standing}
use Rattle.ds_store_journal.specs.Journals.{KeptEdit, edits_by}
use Rattle.ds_store_journal.specs.Standings.{standing_of}
use Rattle.ds_net_desks.specs.declared.numbering.Numbering.{Numbering}

-- the last edit of a process that stands so, of this cell: it is done
abbrev pub last_edit : Shape → Standing → Cell → LastEdit
last_edit shape standing cell = record { number = standing.edits - 1; cell = index_of shape cell; counts = true }

-- the process stood so for its clients when it had made that number of edits of the sheet
pub record Numbers (shape : Shape) (standing : Standing) (made : ℕ) (n : Numbering) : Type 0 where
  pub edits : n.edits ≡ standing.edits
  pub made_is : n.made ≡ made
  pub last : (cell : Cell) → standing.last ≡ Some cell → IsInside shape cell → n.last ≡ Some (last_edit shape standing cell)
  pub none : standing.last ≡ None → n.last ≡ None

-- each process of a sheet of this layout is numbered as it stands after these lines, which keep these edits of the sheet
abbrev pub AreNumberings : Layout → List (List ℕ) → List KeptEdit → List Numbering → Type 0
AreNumberings layout lines edits numberings =
    (process : ℕ) (d : Numbering) → process < layout.processes → Numbers layout.shape (standing_of layout process lines) (edits_by process edits) (slice_index_or numberings process d)
