-- What the target of a request asks to read.
use Rattle.std.specs.Prelude.{ℕ, ◌-◌, ◌^◌, ◌==◌, List, Bool, ◌&&◌, ◌||◌, not, nat_lt, Option, Some, None, codes, bytes_eq, take, drop, if◌then◌else◌}
use Rattle.std.specs.List.{list_all}
use Rattle.ds_formula.specs.declared.cells.Cell.{Cell}
use Rattle.ds_formula.specs.declared.cells.Shape.{Shape}
use Rattle.ds_formula.specs.Bytes.{number_from}
use Rattle.ds_formula.specs.Names.{cell_named}
use Rattle.ds_key.specs.Keys.{is_key}
use Rattle.ds_script_io.specs.Fields.{is_empty}

-- the cell of the sheet that a path names: its name is after `/cells/`
abbrev pub cell_in : Shape → List ℕ → Option Cell
cell_in shape path = if bytes_eq (take 7 path) (codes "/cells/") then cell_named shape (drop 7 path) else None

-- a byte stands for itself at the end of a path: it is none of `/`, `?`, `#` and `%` (RFC 3986, section 3.3)
abbrev pub is_plain : ℕ → Bool
is_plain byte = not ((byte == 47 || byte == 63) || (byte == 35 || byte == 37))

-- the key that a path names as it stands: it is after `/edits/`
abbrev pub key_in : List ℕ → Option (List ℕ)
key_in path = if bytes_eq (take 7 path) (codes "/edits/") && (is_key (drop 7 path) && list_all is_plain (drop 7 path)) then Some (drop 7 path) else None

-- the number that a word gives: digits alone, at least one, of a number below the greatest one of 64 bits
abbrev pub number_in : List ℕ → Option ℕ
number_in word =
    let read = number_from 0 word in
    if not (is_empty word) && (is_empty read.1 && nat_lt read.0 (2 ^ 64 - 1)) then Some read.0 else None

-- the place from which a query asks for the list of edits: the number after `from=`; the first, where there is no query
abbrev pub from_in : Option (List ℕ) → Option ℕ
from_in None = Some 0
from_in (Some query) = if bytes_eq (take 5 query) (codes "from=") then number_in (drop 5 query) else None
