-- The list of a store's edits, as it is written.
use Rattle.std.specs.Prelude.{ℕ, ◌+◌, ◌==◌, Bool, true, ◌&&◌, Option, None, Some, is_none, List, [], ◌∷◌, ◌++◌, zero, suc, codes, if◌then◌else◌}
use Rattle.std.specs.Fmt.{decimal}
use Rattle.std.specs.List.{count_by}
use Rattle.ds_formula.specs.declared.cells.Cell.{Cell}
use Rattle.ds_formula.specs.Names.{cell_text}
use Rattle.ds_store_edits.specs.declared.edits.Maker.{Maker}
use Rattle.ds_store_edits.specs.JournalEdits.{EntryValue}
use Rattle.ds_store_commands.specs.Exports.{shown_line}

-- who made an edit: the process and the number; two dashes for nobody
abbrev pub maker_text : Option Maker → List ℕ
maker_text None = codes "- -"
maker_text (Some maker) = decimal maker.process ++ (codes " " ++ decimal maker.number)

-- an edit at this place of the list, up to its text: `PLACE PROCESS NUMBER CELL`
abbrev pub head_text : ℕ → EntryValue → List ℕ
head_text place entry = decimal place ++ (codes " " ++ (maker_text entry.maker ++ (codes " " ++ cell_text entry.cell)))

-- what stands between an edit's cell and its text, where it has one
abbrev pub gap_text : List ℕ → List ℕ
gap_text [] = []
gap_text (byte ∷ bytes) = codes " "

-- the line of an edit at this place of the list: `PLACE PROCESS NUMBER CELL TEXT`
abbrev pub entry_text : ℕ → EntryValue → List ℕ
entry_text place entry = head_text place entry ++ (gap_text entry.text ++ shown_line entry.text)

-- how many of these edits nobody made: they are texts that the sheet began with
abbrev pub begun_in : List EntryValue → ℕ
begun_in entries = count_by (λ entry. is_none entry.maker) entries

-- the comment before a list with this number of texts that the sheet began with
abbrev pub begun_text : ℕ → List ℕ
begun_text zero = []
begun_text (suc n) = codes "# " ++ (decimal (suc n) ++ codes " texts that the sheet began with, and then its edits: what was before is not kept\n")

-- the cell is asked for, where this one alone is, or all are
abbrev pub is_asked : Option Cell → Cell → Bool
is_asked None cell = true
is_asked (Some only) cell = (only.column == cell.column) && (only.row == cell.row)

-- the lines of these edits, of which the first has this place in the list; those of the cell that is asked for
unfoldable pub lines_from : ℕ → Option Cell → List EntryValue → List ℕ
lines_from place only [] = []
lines_from place only (entry ∷ entries) = (if is_asked only entry.cell then entry_text place entry else []) ++ lines_from (place + 1) only entries

-- the list of these edits: how many texts the sheet began with, and a line for each edit that is asked for
abbrev pub list_text : Option Cell → List EntryValue → List ℕ
list_text only entries = begun_text (begun_in entries) ++ lines_from 1 only entries
