-- The words of a line as numbers and cells.
use Rattle.std.specs.Prelude.{ℕ, Bool, true, false, ◌&&◌, ◌==◌, not, nat_lt, List, [], ◌∷◌, Option, Some, None, option_map, if◌then◌else◌}
use Rattle.std.specs.Borrow.{Bor}
use Rattle.ds_formula.specs.declared.cells.Shape.{Shape}
use Rattle.ds_formula.specs.declared.cells.Cell.{Cell}
use Rattle.ds_formula.specs.Bytes.{number_from}
use Rattle.ds_formula.specs.Names.{cell_named}
use Rattle.ds_script_io.specs.ScriptLines.{word_of}

-- what the function gives of what is there, none where there is none
infixl 10 ◌>>=◌
abbrev pub ◌>>=◌ : {A B : Type 0} → Option A → (A → Option B) → Option B
(Some x) >>= f = f x
None >>= f = None

-- ---- words

-- whether there are no bytes
abbrev pub is_empty : List ℕ → Bool
is_empty [] = true
is_empty (b ∷ bytes) = false

-- the number that a word gives: digits alone, at least one, of a number below the limit
abbrev pub number_below : ℕ → List ℕ → Option ℕ
number_below limit word =
    let read = number_from 0 word in
    if not (is_empty word) && (is_empty read.1 && nat_lt read.0 limit) then Some read.0 else None

-- the next word as a number, and what is after it
abbrev pub number_field : ℕ → Option (List ℕ) → Option (ℕ × Option (List ℕ))
number_field limit rest = rest >>= λ bytes. number_below limit (word_of bytes).0 >>= λ n. Some (n, (word_of bytes).1)

-- the next word as a cell of the sheet, and what is after it
abbrev pub cell_field : Shape → Option (List ℕ) → Option (Cell × Option (List ℕ))
cell_field shape rest = rest >>= λ bytes. cell_named shape (word_of bytes).0 >>= λ c. Some (c, (word_of bytes).1)

-- a field and what is after it, as plain bytes
abbrev pub field_view : {A : Type 0} → A × Option (Bor (List ℕ)) → A × Option (List ℕ)
field_view x = (x.0, option_map (λ r. r.now) x.1)

-- whether a line is skipped: an empty one, or a comment
abbrev pub is_skipped : List ℕ → Bool
is_skipped [] = true
is_skipped (b ∷ line) = b == 35
