-- How faults and cells are shown, and cells by their names.
use Rattle.std.specs.Prelude.{ℕ, ◌+◌, ◌&&◌, nat_lt, Option, None, List, [], ◌∷◌, ◌++◌, codes, Ok, Err, if◌then◌else◌}
use Rattle.std.specs.Fmt.{decimal}
use Rattle.ds_formula.specs.declared.cells.Shape.{Shape}
use Rattle.ds_formula.specs.declared.cells.Cell.{Cell}
use Rattle.ds_formula.specs.declared.fault.FaultKind.{FaultKind}
use Rattle.ds_formula.specs.declared.fault.FaultKind.TheVariants.{TooLong, BadToken, NotWhole, NumberTooLarge, UnknownFunction, WrongArguments, OutsideSheet, RangeNotAllowed, TooDeep, Unfinished, NoMemory}
use Rattle.ds_formula.specs.declared.fault.TextFault.{TextFault}
use Rattle.ds_formula.specs.Bytes.{Read}
use Rattle.ds_formula.specs.Limits.{COLUMNS_MOST, ROWS_MOST}
use Rattle.ds_formula.specs.References.{letters_at, row_at, cell_of}

-- the name of a kind of fault
abbrev pub name_of_kind : FaultKind → List ℕ
name_of_kind TooLong = codes "TooLong"
name_of_kind BadToken = codes "BadToken"
name_of_kind NotWhole = codes "NotWhole"
name_of_kind NumberTooLarge = codes "NumberTooLarge"
name_of_kind UnknownFunction = codes "UnknownFunction"
name_of_kind WrongArguments = codes "WrongArguments"
name_of_kind OutsideSheet = codes "OutsideSheet"
name_of_kind RangeNotAllowed = codes "RangeNotAllowed"
name_of_kind TooDeep = codes "TooDeep"
name_of_kind Unfinished = codes "Unfinished"
name_of_kind NoMemory = codes "NoMemory"

-- the text of a fault: the name of its kind, and the offset
abbrev pub fault_text : TextFault → List ℕ
fault_text t = name_of_kind t.kind ++ (32 ∷ decimal t.offset)

-- the text of a cell: the letter of its column and the number of its row; a cell that no sheet has is shown as OpenFormula writes a lost reference
abbrev pub cell_text : Cell → List ℕ
cell_text c = if nat_lt c.column COLUMNS_MOST && nat_lt c.row ROWS_MOST then (65 + c.column) ∷ decimal (c.row + 1) else codes "#REF!"

-- the cell, where the text ends
abbrev pub at_end : List ℕ → Option Cell → Option Cell
at_end [] cell = cell
at_end (b ∷ bs) cell = None

-- the cell of this column and of the row that was read, where the text ends there
abbrev pub behind_row : Shape → ℕ → Read ℕ → Option Cell
behind_row shape column (Ok row) = at_end row.1 (cell_of shape column row.0)
behind_row shape column (Err e) = None

-- the cell of the column that was read and of the row after it, where the text ends there
abbrev pub behind_column : Shape → Read ℕ → Option Cell
behind_column shape (Ok column) = behind_row shape column.0 (row_at column.1)
behind_column shape (Err e) = None

-- the cell of the sheet with this name: letters, then digits of which the first isn't 0, and nothing after them
abbrev pub cell_named : Shape → List ℕ → Option Cell
cell_named shape text = behind_column shape (letters_at text)
