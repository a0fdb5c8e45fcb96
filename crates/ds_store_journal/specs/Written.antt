-- The lines of a journal as they are written.
use Rattle.std.specs.Prelude.{ℕ, ◌++◌, List, Option, Some, None, codes}
use Rattle.std.specs.Fmt.{decimal}
use Rattle.ds_formula.specs.declared.cells.Cell.{Cell}
use Rattle.ds_formula.specs.Names.{cell_text}
use Rattle.ds_layout.specs.declared.layout.Layout.{Layout}
use Rattle.ds_store_journal.specs.Journals.{AskedFor}
use Rattle.ds_store_journal.specs.declared.standing.Mention.{Mention}

-- the line that makes a sheet of this layout
abbrev pub sheet_text : Layout → List ℕ
sheet_text layout = codes "sheet " ++ (decimal layout.shape.columns ++ (codes " " ++ (decimal layout.shape.rows ++ (codes " " ++ decimal layout.processes))))

-- the line that asks for an edit
abbrev pub edit_text : AskedFor → List ℕ
edit_text asked = codes "set " ++ (decimal asked.process ++ (codes " " ++ (cell_text asked.cell ++ (codes " " ++ asked.text))))

-- the line that says how many processes may be joined
abbrev pub joins_text : ℕ → List ℕ
joins_text number = codes "# joins " ++ decimal number

-- how many edits were made, and the cell of the last one, where one was made
abbrev pub edits_text : ℕ → Option Cell → List ℕ
edits_text edits None = decimal edits
edits_text edits (Some cell) = decimal edits ++ (codes " " ++ cell_text cell)

-- the line that says how a process stood
abbrev pub before_text : Mention → List ℕ
before_text mention = codes "# before " ++ (decimal mention.process ++ (codes " " ++ edits_text mention.standing.edits mention.standing.last))
