-- References and ranges in their brackets (OpenFormula 5.8, without sheet names).
use Rattle.std.specs.Prelude.{ℕ, ◌+◌, ◌-◌, ◌*◌, ◌^◌, ◌&&◌, ◌==◌, nat_le, min, max, Option, Some, None, List, [], ◌∷◌, drop, length, Ok, Err, if◌then◌else◌}
use Rattle.std.specs.Char.{is_ascii_alphabetic, to_ascii_uppercase}
use Rattle.ds_formula.specs.declared.cells.Shape.{Shape}
use Rattle.ds_formula.specs.declared.cells.Cell.{Cell}
use Rattle.ds_formula.specs.declared.cells.Rect.{Rect}
use Rattle.ds_formula.specs.declared.tokens.Leaf.{Leaf}
use Rattle.ds_formula.specs.declared.tokens.Leaf.TheVariants.{Reference, Range}
use Rattle.ds_formula.specs.declared.fault.FaultKind.TheVariants.{OutsideSheet}
use Rattle.ds_formula.specs.Bytes.{Read, ◌>>=◌, stop_at, unexpected_stop, begins, number_from, byte_at}

-- the text without a `$` at the front, which changes nothing
abbrev pub without_dollar : List ℕ → List ℕ
without_dollar [] = []
without_dollar (b ∷ bs) = if b == 36 then bs else b ∷ bs

-- the number of the letters at the front, of either case, after those that gave n so far: A is 1, Z is 26, AA is 27
abbrev pub letters_from : ℕ → List ℕ → ℕ × List ℕ
letters_from n [] = (n, [])
letters_from n (b ∷ bs) = if is_ascii_alphabetic b then letters_from (26 * n + (to_ascii_uppercase b - 64)) bs else (n, b ∷ bs)

-- the number of the column at the front: letters, at least one
unfoldable pub letters_at : List ℕ → Read ℕ
letters_at [] = Err (unexpected_stop [])
letters_at (b ∷ bs) = if is_ascii_alphabetic b then Ok (letters_from 0 (b ∷ bs)) else Err (unexpected_stop (b ∷ bs))

-- the number of the row at the front: digits of which the first isn't 0
unfoldable pub row_at : List ℕ → Read ℕ
row_at [] = Err (unexpected_stop [])
row_at (b ∷ bs) = if nat_le 49 b && nat_le b 57 then Ok (number_from 0 (b ∷ bs)) else Err (unexpected_stop (b ∷ bs))

-- the cell with this column and this row, each from 1, where it is one of the sheet
abbrev pub cell_of : Shape → ℕ → ℕ → Option Cell
cell_of shape column row = if nat_le column shape.columns && nat_le row shape.rows then Some (record { column = column - 1; row = row - 1 }) else None

-- the cell at the front: a dot, a column and a row
unfoldable pub corner_at : Shape → List ℕ → Read (Option Cell)
corner_at shape text = do
  dot ← byte_at 46 text
  column ← letters_at (without_dollar dot)
  row ← row_at (without_dollar column.1)
  Ok (cell_of shape column.0 row.0, row.1)

-- the range between two corners, whichever way round they are
abbrev pub area_of : Cell → Cell → Rect
area_of one other = record {
  first = record { column = min one.column other.column; row = min one.row other.row };
  last = record { column = max one.column other.column; row = max one.row other.row };
}

-- a reference before the rest of the text, where its cell is one of the sheet
abbrev pub inside_sheet : List ℕ → Option Cell → List ℕ → Read Leaf
inside_sheet text (Some cell) rest = Ok (Reference cell, rest)
inside_sheet text None rest = Err (stop_at OutsideSheet text)

-- a range, where both corners are cells of the sheet
abbrev pub both_inside : List ℕ → Option Cell → Option Cell → List ℕ → Read Leaf
both_inside text (Some one) (Some other) rest = Ok (Range (area_of one other) (length text), rest)
both_inside text (Some one) None rest = Err (stop_at OutsideSheet text)
both_inside text None other rest = Err (stop_at OutsideSheet text)

-- the rest of a reference after its first corner: `:` and the other corner, or the closing bracket
abbrev pub behind_corner : Shape → List ℕ → Option Cell → List ℕ → Read Leaf
behind_corner shape text one rest =
    if begins 58 rest
    then (corner_at shape (drop 1 rest) >>= λ other. byte_at 93 other.1 >>= λ end. both_inside text one other.0 end)
    else (byte_at 93 rest >>= λ end. inside_sheet text one end)

-- the reference or range at the front: [.A1] or [.A1:.B3], with no white space inside
unfoldable pub reference_at : Shape → List ℕ → Read Leaf
reference_at shape text = do
  bracket ← byte_at 91 text
  one ← corner_at shape bracket
  behind_corner shape text one.0 one.1

-- a number in 64 bits: the greatest one where it is greater
abbrev pub capped : Read ℕ → Read ℕ
capped (Ok x) = Ok (min x.0 (2 ^ 64 - 1), x.1)
capped (Err e) = Err e
