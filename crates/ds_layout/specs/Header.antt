-- The header of a record.
use Rattle.std.specs.Prelude.{ℕ, ◌+◌, ◌*◌, ◌/◌, ◌%◌, ◌^◌, ◌<◌, ◌≤◌, Option, Some, None, nat_lt, nat_le, ◌&&◌, if◌then◌else◌}
use Rattle.ds_formula.specs.Limits.{TEXT_MOST}
use Rattle.ds_layout.specs.declared.header.Header.{Header}

-- each part of the header fits its place in the word
pub record CanPack (header : Header) : Type 0 where
  pub cell : header.cell < 2 ^ 56
  pub length : header.length < 256

-- the header has a cell of a sheet with that number of cells, and the length of a text
pub record IsHeader (cells : ℕ) (header : Header) : Type 0 where
  pub cell : header.cell < cells
  pub length : header.length ≤ TEXT_MOST

-- the word of a header: its cell and its length
abbrev pub header_word : Header → ℕ
header_word header = header.cell * 256 + header.length

-- the header that the word is: none where the cell is none of the sheet or the length is more than a text's
abbrev pub header_of : ℕ → ℕ → Option Header
header_of cells word =
    let header : Header = record { cell = word / 256; length = word % 256 } in
    if nat_lt header.cell cells && nat_le header.length TEXT_MOST then Some header else None
