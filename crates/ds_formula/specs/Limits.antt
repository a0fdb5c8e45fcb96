-- The limits (our own rules). Where a constant of the code says one of them, a law of its crate says that it is this number.
use Rattle.std.specs.Prelude.{ℕ}

-- how many columns a sheet may have
abbrev pub COLUMNS_MOST : ℕ
COLUMNS_MOST = 26

-- how many rows a sheet may have
abbrev pub ROWS_MOST : ℕ
ROWS_MOST = 64

-- how many cells a sheet may have
abbrev pub CELLS_MOST : ℕ
CELLS_MOST = 1024

-- how many processes a sheet may have
abbrev pub PROCESSES_MOST : ℕ
PROCESSES_MOST = 8

-- how many edits a process may announce, for good
abbrev pub EDITS_MOST : ℕ
EDITS_MOST = 256

-- how many bytes a text may have
abbrev pub TEXT_MOST : ℕ
TEXT_MOST = 240

-- how many bytes a text may have on a sheet whose words are in the first layout
abbrev pub FIRST_TEXT_MOST : ℕ
FIRST_TEXT_MOST = 120

-- how many nodes a formula may have
abbrev pub NODES_MOST : ℕ
NODES_MOST = 64

-- how deep a formula may be
abbrev pub DEPTH_MOST : ℕ
DEPTH_MOST = 16

-- how many bytes a line of a script may have
abbrev pub LINE_MOST : ℕ
LINE_MOST = 512

-- how many bytes a script or a grid may have
abbrev pub INPUT_MOST : ℕ
INPUT_MOST = 1048576
