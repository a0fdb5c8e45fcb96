-- Journals: lists of lines, and the edits that they keep.
use Rattle.std.specs.Prelude.{ℕ, ◌≡◌, ◌+◌, ◌*◌, Bool, ◌==◌, ◌&&◌, nat_le, List, [], ◌∷◌, ◌++◌, Option, Some, None, codes, is_none, if◌then◌else◌, slice_index_or, true, false, unwrap_or}
use Rattle.std.specs.Str.{bytes_eq}
use Rattle.ds_formula.specs.declared.cells.Cell.{Cell}
use Rattle.ds_formula.specs.Limits.{COLUMNS_MOST, ROWS_MOST, CELLS_MOST, PROCESSES_MOST}
use Rattle.ds_layout.specs.declared.layout.Layout.{Layout}
use Rattle.ds_script_io.specs.ScriptLines.{word_of}
use Rattle.ds_script_io.specs.Fields.{◌>>=◌, number_field, cell_field, is_skipped}
use Rattle.ds_store_journal.specs.declared.journal.AskedEdit.{AskedEdit}

-- an edit that a journal keeps: its process, its number among those of the process, its cell and its text
pub record KeptEdit : Type 0 where
  pub process : ℕ
  pub number : ℕ
  pub cell : Cell
  pub text : List ℕ

-- the size of a sheet: its columns, its rows and its processes
pub record SheetSize : Type 0 where
  pub columns : ℕ
  pub rows : ℕ
  pub processes : ℕ

-- what an edit asks for: all but its number
pub record AskedFor : Type 0 where
  pub process : ℕ
  pub cell : Cell
  pub text : List ℕ

-- what the edit asked for
abbrev pub asked_by : KeptEdit → AskedFor
asked_by edit = record { process = edit.process; cell = edit.cell; text = edit.text }

-- what a line that was read asks for
abbrev pub asked_view : AskedEdit → AskedFor
asked_view asked = record { process = asked.process; cell = asked.cell; text = asked.text.now }

-- the size of a layout's sheet
abbrev pub size_of : Layout → SheetSize
size_of layout = record { columns = layout.shape.columns; rows = layout.shape.rows; processes = layout.processes }

-- what is after the first word of a line, where that is the verb
abbrev pub after_verb : List ℕ → List ℕ → Option (List ℕ)
after_verb verb line = if bytes_eq (word_of line).0 verb then (word_of line).1 else None

-- whether a sheet may have that number of columns and rows
abbrev pub may_have : ℕ → ℕ → Bool
may_have columns rows = (nat_le 1 columns && nat_le columns COLUMNS_MOST) && ((nat_le 1 rows && nat_le rows ROWS_MOST) && nat_le (columns * rows) CELLS_MOST)

-- the sheet that a line makes: `sheet COLUMNS ROWS PROCESSES`, within the limits
abbrev pub sheet_in : List ℕ → Option SheetSize
sheet_in line =
    number_field (COLUMNS_MOST + 1) (after_verb (codes "sheet") line) >>= λ columns.
    number_field (ROWS_MOST + 1) columns.1 >>= λ rows.
    number_field (PROCESSES_MOST + 1) rows.1 >>= λ processes.
    if may_have columns.0 rows.0 && (nat_le 1 processes.0 && is_none processes.1) then Some (record { columns = columns.0; rows = rows.0; processes = processes.0 }) else None

-- the edit of such a sheet that a line asks for: `set PROCESS CELL TEXT`; the text is all after the space after the cell
abbrev pub edit_in : Layout → List ℕ → Option AskedFor
edit_in layout line =
    number_field layout.processes (after_verb (codes "set") line) >>= λ process.
    cell_field layout.shape process.1 >>= λ cell.
    Some (record { process = process.0; cell = cell.0; text = unwrap_or cell.1 [] })

-- 1 where it is so
abbrev pub one_if : Bool → ℕ
one_if so = if so then 1 else 0

-- how many of these edits are of the process
unfoldable pub edits_by : ℕ → List KeptEdit → ℕ
edits_by process [] = 0
edits_by process (edit ∷ edits) = one_if (edit.process == process) + edits_by process edits

-- the lines are a journal of a sheet of this layout, and keep these edits, in their order: the first line makes the sheet, and
-- each other one is skipped or asks for the next edit, whose number is how many edits of its process are before it
pub data IsJournal (layout : Layout) : List (List ℕ) → List KeptEdit → Type 0 where
  makes : (line : List ℕ) → sheet_in line ≡ Some (size_of layout) → IsJournal layout (line ∷ []) []
  skips : (lines : List (List ℕ)) (line : List ℕ) (edits : List KeptEdit) → IsJournal layout lines edits → is_skipped line ≡ true → IsJournal layout (lines ++ line ∷ []) edits
  keeps : (lines : List (List ℕ)) (line : List ℕ) (edits : List KeptEdit) (edit : KeptEdit) → IsJournal layout lines edits → is_skipped line ≡ false
      → edit_in layout line ≡ Some (asked_by edit) → edit.number ≡ edits_by edit.process edits → IsJournal layout (lines ++ line ∷ []) (edits ++ edit ∷ [])

-- each process has as many of these edits as the counts say
abbrev pub AreCounts : List ℕ → List KeptEdit → Type 0
AreCounts counts edits = (process : ℕ) → slice_index_or counts process 0 ≡ edits_by process edits
