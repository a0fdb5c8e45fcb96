-- Labels: the fields of a table that are no texts of cells, as its headings and names.
use Rattle.std.specs.Char.{is_ascii_digit}
use Rattle.std.specs.Prelude.{◌==◌, ◌||◌, ◌&&◌, ◌++◌, ℕ, Bool, false, not, List, [], ◌∷◌, take, drop, if◌then◌else◌, is_some}
use Rattle.csv.specs.Writing.{row_text, default_writer}
use Rattle.ds_formula.specs.Grammar.{expression_of}
use Rattle.ds_eval.specs.declared.value.Value.{Value}
use Rattle.ds_eval.specs.Numbers.{value_text}
use Rattle.ds_grid.specs.declared.form.GridForm.{GridForm}

-- a byte that may stand before the digits of a number: a space, a tab, a sign or a point
abbrev pub leads : ℕ → Bool
leads byte = (byte == 32) || ((byte == 9) || ((byte == 43) || ((byte == 45) || (byte == 46))))

-- the text begins as a number or a formula does, after what may lead
unfoldable pub begins_value : List ℕ → Bool
begins_value [] = false
begins_value (byte ∷ bytes) = if leads byte then begins_value bytes else (is_ascii_digit byte || (byte == 61))

-- the text is a label: it is not empty, and begins neither as a number nor as a formula does
abbrev pub is_label : List ℕ → Bool
is_label [] = false
is_label (byte ∷ bytes) = not (is_some (expression_of (byte ∷ bytes)) || begins_value (byte ∷ bytes))

-- the field passes through as a label, where labels do
abbrev pub passes : GridForm → List ℕ → Bool
passes form field = form.keeps_labels && is_label field

-- the text that a cell holds by its field: none where that passes through
abbrev pub held_text : GridForm → List ℕ → List ℕ
held_text form field = if passes form field then [] else field

-- what is shown of a field: it, where it passes through, and else the value of its cell
abbrev pub shown_field : GridForm → List ℕ → Value → List ℕ
shown_field form field value = if passes form field then field else value_text value

-- what is shown of the fields of a record, by the values of their cells
abbrev pub shown_fields : GridForm → List (List ℕ) → List Value → List (List ℕ)
shown_fields form [] values = []
shown_fields form (field ∷ fields) [] = []
shown_fields form (field ∷ fields) (value ∷ values) = shown_field form field value ∷ shown_fields form fields values

-- a table as CSV, n fields a record: what is shown of each record, by the values of all cells, row by row
abbrev pub table_text : GridForm → ℕ → List (List (List ℕ)) → List Value → List ℕ
table_text form columns [] values = []
table_text form columns (fields ∷ rows) values = row_text default_writer (shown_fields form fields (take columns values)) ++ table_text form columns rows (drop columns values)
