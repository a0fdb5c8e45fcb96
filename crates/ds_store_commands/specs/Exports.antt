-- What is written of the lines of a store, and what opens of a table in another notation.
use Rattle.std.specs.Prelude.{◌≡◌, ℕ, ◌==◌, ◌||◌, List, [], ◌∷◌, ◌++◌, Ok, map, flat_map, if◌then◌else◌}
use Rattle.ds_a1.specs.Notation.{opens}
use Rattle.ds_a1.specs.declared.notation.Notation.{Notation}
use Rattle.ds_a1.specs.declared.notation.Notation.TheVariants.{A1, OpenFormula}
use Rattle.ds_store_sums.specs.Sums.{is_sum}

-- a byte within a line, as it is written: a space for what would end the line
abbrev pub shown_byte : ℕ → ℕ
shown_byte byte = if (byte == 10) || (byte == 13) then 32 else byte

-- a line as it is written, with its end
abbrev pub shown_line : List ℕ → List ℕ
shown_line line = map shown_byte line ++ 10 ∷ []

-- what is written of a line of a store: nothing of a sum, which is of the file alone
abbrev pub script_line : List ℕ → List ℕ
script_line line = if is_sum line then [] else shown_line line

-- what is written of the lines of a store, one after the other
abbrev pub script_of : List (List ℕ) → List ℕ
script_of lines = flat_map script_line lines

-- each field opens as the one at its place
abbrev pub FieldsOpen : List (List ℕ) → List (List ℕ) → Type 0
FieldsOpen fields opened = map opens fields ≡ map Ok opened

-- these are the records of a table in this notation, with their formulas in OpenFormula
abbrev pub RowsOpen : Notation → List (List (List ℕ)) → List (List (List ℕ)) → Type 0
RowsOpen OpenFormula rows opened = opened ≡ rows
RowsOpen A1 rows opened = map (map opens) rows ≡ map (map Ok) opened
