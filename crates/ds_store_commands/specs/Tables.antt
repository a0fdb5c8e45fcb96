-- Tables of the texts of a store's sheet.
use Rattle.std.specs.Prelude.{ℕ, ◌≡◌, ◌<◌, List, [], ◌∷◌, false}
use Rattle.csv.specs.Writing.{default_writer, row_text}
use Rattle.ds_a1.specs.declared.notation.Notation.TheVariants.{OpenFormula}
use Rattle.ds_formula.specs.declared.cells.Cell.{Cell}
use Rattle.ds_formula.specs.Cells.{cell_at, count_of}
use Rattle.ds_layout.specs.declared.layout.Layout.{Layout}
use Rattle.ds_grid.specs.declared.form.GridForm.{GridForm}
use Rattle.ds_grid.specs.Grids.{IsCsv, IsGridOf, Shows, cell_field}
use Rattle.ds_store.specs.Texts.{text_at}
use Rattle.ds_store_journal.specs.Journals.{IsJournal, KeptEdit}
use Rattle.ds_store_commands.specs.declared.tables.Cells.{Cells}
use Rattle.ds_store_commands.specs.declared.tables.Cells.TheVariants.{Texts, Values}

-- a table and the lines of a journal have the same texts: the table is a grid of the journal's sheet, and each field is the text
-- that the journal's edits lead to
pub record HaveSameTexts (rows : List (List (List ℕ))) (lines : List (List ℕ)) : Type 0 where
  pub layout : Layout
  pub edits : List KeptEdit
  pub journal : IsJournal layout lines edits
  pub grid : IsGridOf rows layout.shape
  pub each : (k : ℕ) → k < count_of layout.shape → cell_field rows (cell_at layout.shape k) ≡ text_at layout.shape k edits

-- the bytes are CSV, whose records have the texts of the lines of a journal
pub record IsTextsTable (bytes : List ℕ) (lines : List (List ℕ)) : Type 0 where
  pub rows : List (List (List ℕ))
  pub csv : IsCsv bytes rows
  pub same : HaveSameTexts rows lines

-- how the texts of a table are read: formulas are in OpenFormula, and no label passes through
abbrev pub plain_form : GridForm
plain_form = record { notation = OpenFormula; keeps_labels = false }

-- the bytes are CSV of the values of the sheet whose texts the lines of a journal lead to
pub record IsValuesTable (bytes : List ℕ) (lines : List (List ℕ)) : Type 0 where
  pub table : List ℕ
  pub texts : IsTextsTable table lines
  pub shows : Shows plain_form table bytes

-- the bytes are CSV of the texts that the lines of a journal lead to, or of the values of its sheet
abbrev pub IsTableOf : Cells → List (List ℕ) → List ℕ → Type 0
IsTableOf Texts lines table = IsTextsTable table lines
IsTableOf Values lines table = IsValuesTable table lines

-- the bytes are CSV of one field alone: the one that a table has for the cell
pub record IsCellTable (cell : Cell) (table bytes : List ℕ) : Type 0 where
  pub rows : List (List (List ℕ))
  pub csv : IsCsv table rows
  pub is : bytes ≡ row_text default_writer (cell_field rows cell ∷ [])
