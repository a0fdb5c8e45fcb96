-- The records of a table, one after another.
use Rattle.std.proofs.Common.{◌≡◌, ℕ, zero, suc, ◌+◌, ◌*◌, ◌-◌, ◌<◌, ◌≤◌, List, [], ◌∷◌, ◌++◌, take, drop, map, length, get_or, refl, sym, ap, ◌∙◌, append_assoc, arith, drop-drop}
use Rattle.std.proofs.lemmas.List.{length-take-le, length-drop, length-map}
use Rattle.std.proofs.Math.Nat.{mul-le-mul_right}
use Rattle.std.specs.Prelude.{slice_index_or}
use Rattle.csv.specs.Records.{Row, fields_of}
use Rattle.csv.specs.Writing.{row_text, default_writer}
use Rattle.ds_formula.specs.declared.cells.Shape.{Shape}
use Rattle.ds_eval.specs.declared.value.Value.{Value}
use Rattle.ds_grid.specs.declared.form.GridForm.{GridForm}
use Rattle.ds_grid.specs.Grids.{IsGridOf}
use Rattle.ds_grid.specs.Labels.{shown_field, shown_fields, table_text}
use Rattle.ds_grid.proofs.Fields.{row_at}

shown_suc : (form : GridForm) (fields : List (List ℕ)) (values : List Value) (i : ℕ) (d : Value) → i < length fields → i < length values
    → shown_fields form (take (suc i) fields) (take (suc i) values) ≡ shown_fields form (take i fields) (take i values) ++ (shown_field form (slice_index_or fields i []) (get_or values i d) ∷ [])
shown_suc form [] values i d below lt = absurd (omega arith)
shown_suc form (f ∷ fields) [] i d below lt = absurd (omega arith)
shown_suc form (f ∷ fields) (v ∷ values) zero d below lt = refl
shown_suc form (f ∷ fields) (v ∷ values) (suc i) d below lt = ap (λ (xs : List (List ℕ)). shown_field form f v ∷ xs) (shown_suc form fields values i d (omega arith) (omega arith))

-- one field more is shown
pub shown_more : (form : GridForm) (fields : List (List ℕ)) (values : List Value) (i : ℕ) (d : Value) (old new : List (List ℕ)) (field : List ℕ) → i < length values → length fields ≡ length values
    → new ≡ old ++ (shown_field form field (get_or values i d) ∷ []) → field ≡ slice_index_or fields i [] → old ≡ shown_fields form (take i fields) (take i values)
    → new ≡ shown_fields form (take (i + 1) fields) (take (i + 1) values)
shown_more form fields values i d old new field below even is at so_far =
    let one : i + 1 ≡ suc i = omega arith in
    is
    ∙ ap (λ (t : List ℕ). old ++ (shown_field form t (get_or values i d) ∷ [])) at
    ∙ ap (λ (fs : List (List ℕ)). fs ++ (shown_field form (slice_index_or fields i []) (get_or values i d) ∷ [])) so_far
    ∙ sym (shown_suc form fields values i d (omega (arith, below, even)) below)
    ∙ sym (ap (λ n. shown_fields form (take n fields) (take n values)) one)

-- a record of a grid has a field for each column
pub row_width : (rows : List Row) (shape : Shape) (i : ℕ) (row : Row) → IsGridOf (map fields_of rows) shape → i < shape.rows → row ≡ get_or rows i row → length (fields_of row) ≡ shape.columns
row_width rows shape i row grid below at =
    let all : length (map fields_of rows) ≡ length rows = length-map rows fields_of in
    let some : shape.rows ≡ length (map fields_of rows) = grid.rows_are in
    ap (λ (r : Row). length (fields_of r)) at
    ∙ sym (ap (λ (r : List (List ℕ)). length r) (row_at rows i row (omega (arith, all, some, below))))
    ∙ grid.even i (omega (arith, some, below))
    ∙ sym grid.columns

-- a row of a sheet has a value for each column
pub own_values : (columns rows i : ℕ) (values : List Value) → length values ≡ columns * rows → i < rows → length (take (i * columns + columns - i * columns) (drop (i * columns) values)) ≡ columns
own_values columns rows i values all below =
    let upto : (i + 1) * columns ≤ rows * columns = mul-le-mul_right columns (omega (arith, below)) in
    let left : length (drop (i * columns) values) ≡ length values - i * columns = length-drop (i * columns) values in
    let e : i * columns + columns - i * columns ≡ columns = omega arith in
    ap (λ n. length (take n (drop (i * columns) values))) e
    ∙ length-take-le columns (drop (i * columns) values) (omega (arith, upto, left, all))

drop_at : {A : Type 0} (xs : List A) (i : ℕ) (d : A) → i < length xs → drop i xs ≡ slice_index_or xs i d ∷ drop (suc i) xs
drop_at [] i d below = absurd (omega arith)
drop_at (x ∷ xs) zero d below = refl
drop_at (x ∷ xs) (suc i) d below = drop_at xs i d (omega arith)

-- one record more is written
pub table_more : (form : GridForm) (columns i : ℕ) (rows : List (List (List ℕ))) (values : List Value) (text whole : List ℕ) (fields shown : List (List ℕ)) → i < length rows
    → fields ≡ slice_index_or rows i []
    → text ++ table_text form columns (drop i rows) (drop (i * columns) values) ≡ whole
    → shown ≡ shown_fields form fields (take (i * columns + columns - i * columns) (drop (i * columns) values))
    → (text ++ row_text default_writer shown) ++ table_text form columns (drop (i + 1) rows) (drop ((i + 1) * columns) values) ≡ whole
table_more form columns i rows values text whole fields shown below at so_far is =
    let rest : List Value = drop (i * columns) values in
    let one : i + 1 ≡ suc i = omega arith in
    let behind : drop ((i + 1) * columns) values ≡ drop columns rest =
    ap (λ (n : ℕ). drop n values) (let e : (i + 1) * columns ≡ i * columns + columns = omega arith in e) ∙ sym (drop-drop columns (i * columns) values) in
    let own : shown ≡ shown_fields form (slice_index_or rows i []) (take columns rest) =
    is ∙ ap (λ (n : ℕ). shown_fields form fields (take n rest)) (let e : i * columns + columns - i * columns ≡ columns = omega arith in e) ∙ ap (λ (fs : List (List ℕ)). shown_fields form fs (take columns rest)) at in
    append_assoc text (row_text default_writer shown) (table_text form columns (drop (i + 1) rows) (drop ((i + 1) * columns) values))
    ∙ ap (λ (fs : List (List ℕ)). text ++ (row_text default_writer fs ++ table_text form columns (drop (i + 1) rows) (drop ((i + 1) * columns) values))) own
    ∙ ap (λ (vs : List Value). text ++ (row_text default_writer (shown_fields form (slice_index_or rows i []) (take columns rest)) ++ table_text form columns (drop (i + 1) rows) vs)) behind
    ∙ ap (λ (n : ℕ). text ++ (row_text default_writer (shown_fields form (slice_index_or rows i []) (take columns rest)) ++ table_text form columns (drop n rows) (drop columns rest))) one
    ∙ ap (λ (rs : List (List (List ℕ))). text ++ table_text form columns rs rest) (sym (drop_at rows i [] below))
    ∙ so_far
