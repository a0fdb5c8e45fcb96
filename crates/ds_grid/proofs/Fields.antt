-- Texts of cells, and the contents that are read from them.
use Rattle.std.proofs.Common.{ℕ, ◌≡◌, ◌≢◌, ◌<◌, ◌⊎◌, ◌+◌, List, [], ◌∷◌, ◌++◌, map, length, get_or, refl, ap, sym, ◌∙◌, subst, arith, zero, suc, Some, None, inl, inr}
use Rattle.std.proofs.lemmas.Bool.{cases_lt}
use Rattle.std.specs.Prelude.{Option, Err, slice_get, slice_index_or}
use Rattle.csv.specs.Records.{Row, fields_of, field_at}
use Rattle.ds_formula.specs.declared.cells.Cell.{Cell}
use Rattle.ds_formula.specs.declared.cells.Shape.{Shape}
use Rattle.ds_formula.specs.declared.content.Content.{Content}
use Rattle.ds_formula.specs.declared.fault.TextFault.{TextFault}
use Rattle.ds_formula.specs.declared.fault.FaultKind.TheVariants.{NoMemory}
use Rattle.ds_formula.specs.Cells.{IsInside, cell_at, index_of}
use Rattle.ds_formula.specs.Plain.{plain}
use Rattle.ds_a1.specs.Answers.{ReadsBy, FaultsBy, AnswersBy}
use Rattle.ds_grid.specs.declared.ending.GridEnd.TheVariants as ends
use Rattle.ds_eval.specs.declared.sheet.Sheet.{Sheet}
use Rattle.ds_eval.specs.SheetContents.{contents_of, plain_or_empty}
use Rattle.ds_eval.proofs.Walks.{index_below, cell_back}
use Rattle.ds_grid.specs.declared.ending.GridEnd.{GridEnd}
use Rattle.ds_grid.specs.declared.form.GridForm.{GridForm}
use Rattle.ds_grid.specs.Grids.{width, cell_field, text_at, IsCsv, IsGridOf, AreRead, AllRead, IsFirstFault, FailsAt, Fails, Ran}
use Rattle.ds_script_io.specs.declared.input.InputEnd.TheVariants as inputs

-- ---- fields

-- the record that stands at a place
pub row_at : (rows : List Row) (i : ℕ) (d : Row) → i < length rows → slice_index_or (map fields_of rows) i [] ≡ fields_of (get_or rows i d)
row_at [] i d lt = absurd (omega arith)
row_at (x ∷ rows) zero d lt = refl
row_at (x ∷ rows) (suc i) d lt = row_at rows i d (omega arith)

-- a field that a record has
pub some_field : (fields : List (List ℕ)) (i : ℕ) (x : List ℕ) → Some x ≡ field_at fields i → slice_index_or fields i [] ≡ x
unfolding field_at
some_field [] i x is = absurd (cc)
some_field (f ∷ fields) zero x is = (let same : x ≡ f = cc in sym same)
some_field (f ∷ fields) (suc i) x is = some_field fields i x is

-- a field that a record has not
pub no_field : (fields : List (List ℕ)) (i : ℕ) → None ≡ field_at fields i → slice_index_or fields i [] ≡ []
unfolding field_at
no_field [] i is = refl
no_field (f ∷ fields) zero is = absurd (cc)
no_field (f ∷ fields) (suc i) is = no_field fields i is

-- a cell's field is that of its record that stands there
pub field_some : (rows : List Row) (cell : Cell) (row : Row) (x : List ℕ) → cell.row < length rows → row ≡ get_or rows cell.row row → Some x ≡ field_at (fields_of row) cell.column → x ≡ cell_field (map fields_of rows) cell
field_some rows cell row x lt at is =
    sym (some_field (fields_of row) cell.column x is) ∙ ap (λ (r : Row). slice_index_or (fields_of r) cell.column []) at ∙ sym (ap (λ (r : List (List ℕ)). slice_index_or r cell.column []) (row_at rows cell.row row lt))

-- a cell without a field in its record has the empty one
pub field_none : (rows : List Row) (cell : Cell) (row : Row) → cell.row < length rows → row ≡ get_or rows cell.row row → None ≡ field_at (fields_of row) cell.column → [] ≡ cell_field (map fields_of rows) cell
field_none rows cell row lt at is =
    sym (no_field (fields_of row) cell.column is) ∙ ap (λ (r : Row). slice_index_or (fields_of r) cell.column []) at ∙ sym (ap (λ (r : List (List ℕ)). slice_index_or r cell.column []) (row_at rows cell.row row lt))

-- ---- records of one length

-- one record more that has as many fields as those before
pub even_more : (rows : List Row) (i columns : ℕ) (row : Row) → i < length rows → row ≡ get_or rows i row → length (fields_of row) ≡ columns
    → ((r : ℕ) → r < i → width (map fields_of rows) r ≡ columns) → (r : ℕ) → r < i + 1 → width (map fields_of rows) r ≡ columns
even_more rows i columns row lt at is before r below = elim (cases_lt r i) [
  | inl early ↦ before r early
  | inr late ↦ (
      let same : r ≡ i = omega arith in
      ap (λ k. width (map fields_of rows) k) same ∙ ap (λ (x : List (List ℕ)). length x) (row_at rows i row lt) ∙ ap (λ (x : Row). length (fields_of x)) (sym at) ∙ is)
]

-- ---- contents

-- one more is after the others
pushed : {A : Type 0} (xs : List A) (x y : A) (i : ℕ) → slice_get (xs ++ x ∷ []) i ≡ Some y → (slice_get xs i ≡ Some y) ⊎ ((i ≡ length xs) × (x ≡ y))
pushed [] x y zero is = inr (refl, cc)
pushed [] x y (suc i) is = absurd (cc)
pushed (z ∷ xs) x y zero is = inl is
pushed (z ∷ xs) x y (suc i) is = elim (pushed xs x y i is) [
  | inl early ↦ inl early
  | inr late ↦ inr ((let l = late.0 in omega arith), late.1)
]

-- the content of the next cell's text, after those of the cells before
pub read_more : (form : GridForm) (shape : Shape) (rows : List (List (List ℕ))) (contents : List Content) (content : Content) (index : ℕ) (cell : Cell) (text : List ℕ) → AreRead form shape rows contents → length contents ≡ index
    → cell ≡ cell_at shape index → text ≡ text_at form rows cell → ReadsBy form.notation shape text (plain content) → AreRead form shape rows (contents ++ content ∷ [])
read_more form shape rows contents content index cell text read all at is now k x found = elim (pushed contents content x k found) [
  | inl early ↦ read k x early
  | inr late ↦ subst (λ (c : Content). ReadsBy form.notation shape (text_at form rows (cell_at shape k)) (plain c)) late.1
      (subst (λ (t : List ℕ). ReadsBy form.notation shape t (plain content)) (is ∙ ap (λ (c : Cell). text_at form rows c) (at ∙ ap (λ n. cell_at shape n) (sym all ∙ sym late.0))) now)
]

content_at : {A : Type 0} (xs : List A) (i : ℕ) → i < length xs → (x : A) × (slice_get xs i ≡ Some x)
content_at [] i lt = absurd (omega arith)
content_at (x ∷ xs) zero lt = (x, refl)
content_at (x ∷ xs) (suc i) lt = content_at xs i (omega arith)

-- a text that has no content has this fault, and those before it have one
pub first_fault : (form : GridForm) (shape : Shape) (rows : List (List (List ℕ))) (contents : List Content) (index : ℕ) (cell : Cell) (text : List ℕ) (fault : TextFault) → AreRead form shape rows contents → length contents ≡ index
    → index_of shape cell ≡ index → IsInside shape cell → text ≡ text_at form rows cell → AnswersBy form.notation shape text (Err fault) → fault.kind ≢ NoMemory → IsFirstFault form shape rows cell fault
first_fault form shape rows contents index cell text fault read all back inside is (inl none) not = absurd (not (ap (λ (f : TextFault). f.kind) none))
first_fault form shape rows contents index cell text fault read all back inside is (inr faults) not = record {
  inside = inside;
  faults = subst (λ (t : List ℕ). FaultsBy form.notation shape t fault) is faults;
  before = λ k lt. (let c = content_at contents k (omega arith) in (plain c.0, read k c.0 c.1));
}

-- ---- the report

-- a grid fails as the reading of its contents does
pub fails_of : (form : GridForm) (bytes : List ℕ) (rows : List (List (List ℕ))) (shape : Shape) (end : GridEnd) → IsCsv bytes rows → IsGridOf rows shape → FailsAt form shape rows end → Fails form bytes end
fails_of form bytes rows shape (ends.CellFault cell fault) csv grid first = record { rows = rows; csv = csv; shape = shape; grid = grid; first = first }
fails_of form bytes rows shape ends.NoMemory csv grid first = tt
fails_of form bytes rows shape (ends.Grid fault) csv grid first = absurd first
fails_of form bytes rows shape ends.Ended csv grid first = absurd first
fails_of form bytes rows shape ends.TooLong csv grid first = absurd first
fails_of form bytes rows shape ends.ReadFailed csv grid first = absurd first
fails_of form bytes rows shape ends.WriteFailed csv grid first = absurd first

-- each cell of the sheet holds the content of its text
pub reads_all : (form : GridForm) (rows : List (List (List ℕ))) (sheet : Sheet) → AllRead form sheet.shape rows sheet.contents.items → (cell : Cell) → IsInside sheet.shape cell → ReadsBy form.notation sheet.shape (text_at form rows cell) (contents_of sheet cell)
reads_all form rows sheet h cell inside =
    let c = content_at sheet.contents.items (index_of sheet.shape cell) (let low = index_below sheet.shape cell inside in let all = h.all in omega arith) in
    subst (λ (x : Cell). ReadsBy form.notation sheet.shape (text_at form rows x) (contents_of sheet cell)) (cell_back sheet.shape cell inside)
    (subst (λ (o : Option Content). ReadsBy form.notation sheet.shape (text_at form rows (cell_at sheet.shape (index_of sheet.shape cell))) (plain_or_empty o)) (sym c.1) (h.each (index_of sheet.shape cell) c.0 c.1))

-- nothing is written where the report fails
pub ran_of : (form : GridForm) (bytes : List ℕ) (end : GridEnd) → Fails form bytes end → Ran form inputs.Ended bytes [] end
ran_of form bytes (ends.CellFault cell fault) fails = (refl, refl, fails)
ran_of form bytes (ends.Grid fault) fails = (refl, refl, fails)
ran_of form bytes ends.NoMemory fails = refl
ran_of form bytes ends.Ended fails = absurd fails
ran_of form bytes ends.TooLong fails = absurd fails
ran_of form bytes ends.ReadFailed fails = absurd fails
ran_of form bytes ends.WriteFailed fails = absurd fails
