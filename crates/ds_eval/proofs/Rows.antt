-- The inputs between the first and the last cell of a row are all its cells.
use Rattle.std.proofs.Common.{◌≡◌, ℕ, zero, suc, ◌+◌, ◌-◌, ◌*◌, ◌<◌, ◌≤◌, max, Some, List, [], ◌∷◌, ◌++◌, map, length, sym, ap, subst, ◌∙◌, inl, inr, arith, append_assoc, append-nil, mul-suc}
use Rattle.std.proofs.lemmas.Bool.{cases_lt}
use Rattle.std.proofs.lemmas.List.{map-append}
use Rattle.std.proofs.lemmas.Nat.{mod-mul-add, div-mul-add}
use Rattle.std.proofs.Math.Nat.{mul_comm}
use Rattle.ds_formula.specs.declared.cells.Cell.{Cell}
use Rattle.ds_formula.specs.declared.cells.Rect.{Rect}
use Rattle.ds_eval.specs.declared.value.Value.{Value}
use Rattle.ds_eval.specs.declared.inputs.Input.{Input}
use Rattle.ds_formula.specs.Refs.{IsBefore}
use Rattle.ds_eval.specs.Inputs.{IsAscending, cell_in}
use Rattle.ds_eval.specs.Rows.{right_of, row_from}
use Rattle.ds_eval.specs.Evaluation.{cell_of, first_cells}
use Rattle.ds_eval.specs.Local.{above}
use Rattle.ds_eval.specs.Numbers.{first_error}
use Rattle.ds_eval.proofs.Heights.{above_push}
use Rattle.ds_eval.proofs.Tallies.{error_stays}
use Rattle.ds_eval.proofs.Cells.{same_cell}

not_below : (a b : Cell) → IsBefore a b → a.row ≤ b.row
not_below a b (inl p) = omega arith
not_below a b (inr p) = omega (arith, p.0)

further_right : (a b : Cell) → IsBefore a b → b.row ≡ a.row → a.column < b.column
further_right a b (inl p) e = absurd (omega (arith, e))
further_right a b (inr p) e = p.1

module _ (xs : List Input) (a : IsAscending xs) where
  rows_ascend : (j k : ℕ) → j ≤ k → k < length xs → (cell_in xs j).row ≤ (cell_in xs k).row
  rows_ascend j k l m = elim (cases_lt j k) [
    | inl p ↦ not_below (cell_in xs j) (cell_in xs k) (a.ascend j k p m)
    | inr p ↦ let e : j ≡ k = omega arith in subst (λ (i : ℕ). (cell_in xs j).row ≤ (cell_in xs i).row) e (omega arith)
  ]

  -- in one row each further input is at least a column further to the right
  columns_ascend : (j n : ℕ) → j + n < length xs → (cell_in xs (j + n)).row ≤ (cell_in xs j).row → (cell_in xs j).column + n ≤ (cell_in xs (j + n)).column
  columns_ascend j zero l r = subst (λ (i : ℕ). (cell_in xs j).column + 0 ≤ (cell_in xs i).column) (let e : j ≡ j + 0 = omega arith in e) (omega arith)
  columns_ascend j (suc n) l r =
      let e : suc (j + n) ≡ j + suc n = omega arith in
      let r1 = rows_ascend j (j + n) (omega arith) (omega arith) in
      let r2 = rows_ascend (j + n) (j + suc n) (omega arith) l in
      let before = columns_ascend j n (omega arith) (omega (arith, r, r2)) in
      let step = further_right (cell_in xs (j + n)) (cell_in xs (j + suc n)) (a.ascend (j + n) (j + suc n) (omega arith) l) (omega (arith, r, r1, r2)) in
      omega (arith, before, step)

  pub row_cell : (first : Cell) (place k m : ℕ) → place + (k + m) < length xs → cell_in xs place ≡ first → cell_in xs (place + (k + m)) ≡ right_of first (k + m) → cell_in xs (place + k) ≡ right_of first k
  row_cell first place k m l e f =
      let p : (place + k) + m ≡ place + (k + m) = omega arith in
      let f2 : cell_in xs ((place + k) + m) ≡ right_of first (k + m) = ap (cell_in xs) p ∙ f in
      let r0 = ap (λ (c : Cell). c.row) e in
      let c0 = ap (λ (c : Cell). c.column) e in
      let r3 = ap (λ (c : Cell). c.row) f2 in
      let c3 = ap (λ (c : Cell). c.column) f2 in
      let r1 = rows_ascend place (place + k) (omega arith) (omega arith) in
      let r2 = rows_ascend (place + k) ((place + k) + m) (omega arith) (omega arith) in
      let g1 = columns_ascend place k (omega arith) (omega (arith, r0, r2, r3)) in
      let g2 = columns_ascend (place + k) m (omega arith) (omega (arith, r0, r1, r3)) in
      same_cell (cell_in xs (place + k)) (right_of first k) (omega (arith, g1, g2, c0, c3)) (omega (arith, r0, r1, r2, r3))

  pub whole_row : (first : Cell) (place width : ℕ) → 0 < width → place + width ≤ length xs → cell_in xs place ≡ first → cell_in xs (place + (width - 1)) ≡ right_of first (width - 1)
      → (k : ℕ) → k < width → cell_in xs (place + k) ≡ right_of first k
  whole_row first place width p l e f k m =
      let q : width - 1 ≡ k + (width - 1 - k) = omega arith in
      row_cell first place k (width - 1 - k) (omega arith) e (subst (λ (n : ℕ). cell_in xs (place + n) ≡ right_of first n) q f)

-- ---- a row, cell by cell

-- one cell more of a row: its value after those of the others
pub row_values : (read : Cell → Value) (vs : List Value) (first : Cell) (k : ℕ)
    → (vs ++ map read (row_from first k)) ++ read (right_of first k) ∷ [] ≡ vs ++ map read (row_from first (k + 1))
row_values read vs first k =
    append_assoc vs (map read (row_from first k)) (read (right_of first k) ∷ [])
    ∙ ap (λ (ws : List Value). vs ++ ws) (sym (map-append read (row_from first k) (right_of first k ∷ [])))
    ∙ ap (λ (n : ℕ). vs ++ map read (row_from first n)) (let e : suc k ≡ k + 1 = omega arith in e)

-- one cell more of a row: the greater of what was above the others and one more than its height
pub row_height : (heights : Cell → ℕ) (first : Cell) (k : ℕ) → above (map heights (row_from first (k + 1))) ≡ max (above (map heights (row_from first k))) (suc (heights (right_of first k)))
row_height heights first k =
    ap (λ (n : ℕ). above (map heights (row_from first n))) (let e : k + 1 ≡ suc k = omega arith in e)
    ∙ ap above (map-append heights (row_from first k) (right_of first k ∷ []))
    ∙ above_push (map heights (row_from first k)) (heights (right_of first k))

-- above a row with at least one cell is a height of more than 0
pub some_height : (heights : Cell → ℕ) (first : Cell) (columns : ℕ) → 0 < columns → 0 < above (map heights (row_from first columns))
some_height heights first zero h = absurd (omega (arith, h))
some_height heights first (suc k) h =
    let e : suc k ≡ k + 1 = omega arith in
    let more = row_height heights first k in
    let same = ap (λ (n : ℕ). above (map heights (row_from first n))) e in
    omega (arith, more, same)

-- a row begins with each shorter one
pub row_parts : (first : Cell) (j k : ℕ) → j ≤ k → (rest : List Cell) × (row_from first j ++ rest ≡ row_from first k)
row_parts first j zero h = ([], append-nil (row_from first j) ∙ ap (row_from first) (let e : j ≡ 0 = omega (arith, h) in e))
row_parts first j (suc k) h = elim (cases_lt j (suc k)) [
  | inl less ↦ let p = row_parts first j k (omega (arith, less)) in
      (p.0 ++ right_of first k ∷ [], sym (append_assoc (row_from first j) p.0 (right_of first k ∷ [])) ∙ ap (λ (cs : List Cell). cs ++ right_of first k ∷ []) p.1)
  | inr not_less ↦ ([], append-nil (row_from first j) ∙ ap (row_from first) (let e : j ≡ suc k = omega (arith, h, not_less) in e))
]

abbrev values_so_far : (Cell → Value) → List Value → Cell → ℕ → List Value
values_so_far read vs first k = vs ++ map read (row_from first k)

-- an error in a row is that of the whole row
pub error_in_row : (read : Cell → Value) (vs : List Value) (first : Cell) (j k : ℕ) (e : Value) → j ≤ k → first_error (values_so_far read vs first j) ≡ Some e → first_error (values_so_far read vs first k) ≡ Some e
error_in_row read vs first j k e h found =
    let p = row_parts first j k h in
    let before = map read (row_from first j) in
    let same : (vs ++ before) ++ map read p.0 ≡ values_so_far read vs first k =
    append_assoc vs before (map read p.0) ∙ ap (λ (ws : List Value). vs ++ ws) (sym (map-append read (row_from first j) p.0) ∙ ap (map read) p.1) in
    sym (ap first_error same) ∙ error_stays (vs ++ before) (map read p.0) e found

-- ---- a range, row by row

above_both : (hs ks : List ℕ) → above (hs ++ ks) ≡ max (above hs) (above ks)
above_both [] ks = omega arith
above_both (h ∷ hs) ks = let k = above_both hs ks in omega (arith, k)

-- the cell with this number in this row of a range
cell_in_row : (area : Rect) (columns row k : ℕ) (first : Cell) → first ≡ record { column = area.first.column; row = area.first.row + row } → k < columns → cell_of area columns (columns * row + k) ≡ right_of first k
cell_in_row area columns row k first e l =
    let x : columns * row + k ≡ row * columns + k = omega (arith, mul_comm columns row) in
    let m = mod-mul-add row columns k l in
    let d = div-mul-add row columns k l in
    ap (cell_of area columns) x
    ∙ same_cell (cell_of area columns (row * columns + k)) (right_of first k)
    (ap (λ (n : ℕ). area.first.column + n) m ∙ ap (λ (c : Cell). c.column + k) (sym e))
    (ap (λ (n : ℕ). area.first.row + n) d ∙ ap (λ (c : Cell). c.row) (sym e))

row_so_far : (area : Rect) (columns row k : ℕ) (first : Cell) → first ≡ record { column = area.first.column; row = area.first.row + row } → k ≤ columns
    → first_cells area columns (columns * row + k) ≡ first_cells area columns (columns * row) ++ row_from first k
row_so_far area columns row zero first e l = ap (first_cells area columns) (let x : columns * row + 0 ≡ columns * row = omega arith in x) ∙ sym (append-nil (first_cells area columns (columns * row)))
row_so_far area columns row (suc k) first e l =
    let before = first_cells area columns (columns * row) in
    ap (first_cells area columns) (let x : columns * row + suc k ≡ suc (columns * row + k) = omega arith in x)
    ∙ ap (λ (cs : List Cell). cs ++ cell_of area columns (columns * row + k) ∷ []) (row_so_far area columns row k first e (omega arith))
    ∙ ap (λ (c : Cell). (before ++ row_from first k) ++ c ∷ []) (cell_in_row area columns row k first e (omega arith))
    ∙ append_assoc before (row_from first k) (right_of first k ∷ [])

pub one_row_more : (area : Rect) (columns row : ℕ) (first : Cell) → first ≡ record { column = area.first.column; row = area.first.row + row }
    → first_cells area columns (columns * (row + 1)) ≡ first_cells area columns (columns * row) ++ row_from first columns
one_row_more area columns row first e =
    ap (first_cells area columns) (let x : columns * (row + 1) ≡ columns * row + columns = omega (arith, mul-suc columns row) in x)
    ∙ row_so_far area columns row columns first e (omega arith)

-- one row more of a range: its values after those of the rows before
pub rows_values : (read : Cell → Value) (vs : List Value) (area : Rect) (columns row : ℕ) (first : Cell) → first ≡ record { column = area.first.column; row = area.first.row + row }
    → (vs ++ map read (first_cells area columns (columns * row))) ++ map read (row_from first columns) ≡ vs ++ map read (first_cells area columns (columns * (row + 1)))
rows_values read vs area columns row first e =
    append_assoc vs (map read (first_cells area columns (columns * row))) (map read (row_from first columns))
    ∙ ap (λ (ws : List Value). vs ++ ws) (sym (map-append read (first_cells area columns (columns * row)) (row_from first columns)))
    ∙ ap (λ (cs : List Cell). vs ++ map read cs) (sym (one_row_more area columns row first e))

-- one row more of a range: the greater of what is above the rows before and above it
pub rows_height : (heights : Cell → ℕ) (area : Rect) (columns row : ℕ) (first : Cell) → first ≡ record { column = area.first.column; row = area.first.row + row }
    → above (map heights (first_cells area columns (columns * (row + 1)))) ≡ max (above (map heights (first_cells area columns (columns * row)))) (above (map heights (row_from first columns)))
rows_height heights area columns row first e =
    ap (λ (cs : List Cell). above (map heights cs)) (one_row_more area columns row first e)
    ∙ ap above (map-append heights (first_cells area columns (columns * row)) (row_from first columns))
    ∙ above_both (map heights (first_cells area columns (columns * row))) (map heights (row_from first columns))
