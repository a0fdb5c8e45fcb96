-- The texts that the edits of a journal lead to.
use Rattle.std.specs.Prelude.{◌≡◌, ◌<◌, ◌==◌, ℕ, List, [], ◌∷◌, Vec, slice_index_or, if◌then◌else◌}
use Rattle.std.specs.Global.{Global}
use Rattle.ds_formula.specs.declared.cells.Shape.{Shape}
use Rattle.ds_formula.specs.Cells.{count_of as cells_in, index_of}
use Rattle.ds_layout.specs.declared.layout.Layout.{Layout}
use Rattle.ds_store_journal.specs.Journals.{IsJournal, KeptEdit}
use Rattle.ds_store.specs.Stores.{GoesOn}

-- the text of the cell with this number after these edits, which had this one before them: that of the last edit of it
unfoldable pub text_after : Shape → ℕ → List ℕ → List KeptEdit → List ℕ
text_after shape k text [] = text
text_after shape k text (edit ∷ edits) = text_after shape k (if index_of shape edit.cell == k then edit.text else text) edits

-- the text of the cell with this number, where it has none before these edits
abbrev pub text_at : Shape → ℕ → List KeptEdit → List ℕ
text_at shape k edits = text_after shape k [] edits

-- the cells have the texts that these edits lead to
abbrev pub AreTexts : Shape → List (Vec ℕ Global) → List KeptEdit → Type 0
AreTexts shape texts edits = (k : ℕ) (d : Vec ℕ Global) → k < cells_in shape → (slice_index_or texts k d).items ≡ text_at shape k edits

-- the lines are a journal, and its edits lead to these texts
pub record HasTexts (layout : Layout) (counts : List ℕ) (texts : List (Vec ℕ Global)) (lines : List (List ℕ)) : Type 0 where
  pub edits : List KeptEdit
  pub goes_on : GoesOn layout counts lines edits
  pub texts_are : AreTexts layout.shape texts edits

-- both journals' sheets have as many columns and rows, and the same text in each cell
pub record SameTexts (layout : Layout) (lines : List (List ℕ)) (other : Layout) (more : List (List ℕ)) : Type 0 where
  pub edits : List KeptEdit
  pub again : List KeptEdit
  pub journal : IsJournal layout lines edits
  pub other_journal : IsJournal other more again
  pub columns_are : other.shape.columns ≡ layout.shape.columns
  pub rows_are : other.shape.rows ≡ layout.shape.rows
  pub texts : (k : ℕ) → k < cells_in layout.shape → text_at other.shape k again ≡ text_at layout.shape k edits
