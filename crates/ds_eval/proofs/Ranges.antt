-- The cells of a range are those of the sheet within it.
use Rattle.std.proofs.Common.{◌≡◌, ℕ, zero, suc, ◌+◌, ◌-◌, ◌*◌, ◌/◌, ◌%◌, ◌<◌, Bool, true, false, ◌&&◌, nat_lt, refl, inl, inr, arith}
use Rattle.std.proofs.lemmas.Bool.Decides.{nat_tests}
use Rattle.std.proofs.lemmas.Bool.{cases_lt}
use Rattle.std.proofs.lemmas.Nat.{mod-mul-add, div-mul-add, mul-add-lt}
use Rattle.std.proofs.Math.Nat.{mul-le-mul_left}
use Rattle.ds_formula.specs.declared.cells.Shape.{Shape}
use Rattle.ds_formula.specs.declared.cells.Cell.{Cell}
use Rattle.ds_formula.specs.declared.cells.Rect.{Rect}
use Rattle.ds_formula.specs.Cells.{IsInside, IsWithin}
use Rattle.ds_eval.specs.Evaluation.{is_inside, width, height, cell_of}
use Rattle.ds_eval.proofs.Cells.{same_cell}

both : (p q : Bool) → (p && q) ≡ true → (p ≡ true) × (q ≡ true)
both true q e = (refl, e)
both false q e = absurd cc

lt_true : (m n : ℕ) → nat_lt m n ≡ true → m < n
lt_true m n e = grind (arith, nat_tests)

true_lt : (m n : ℕ) → m < n → nat_lt m n ≡ true
true_lt m n h = grind (arith, nat_tests)

-- a cell that the test takes for one of the sheet is one
pub inside_from : (shape : Shape) (c : Cell) → is_inside shape c ≡ true → IsInside shape c
inside_from shape c e = let p = both (nat_lt c.column shape.columns) (nat_lt c.row shape.rows) e in record { column = lt_true _ _ p.0; row = lt_true _ _ p.1 }

-- the test takes each cell of the sheet for one
pub inside_is : (shape : Shape) (c : Cell) → IsInside shape c → is_inside shape c ≡ true
inside_is shape c h = rw (true_lt c.column shape.columns h.column, true_lt c.row shape.rows h.row) refl

-- ---- one of the first cells of a range

pub some_columns : (columns rows k : ℕ) → k < columns * rows → 0 < columns
some_columns zero rows k h = omega arith
some_columns (suc c) rows k h = omega arith

-- a place below w * h is in one of the first h rows of w
pub row_below : (k w h : ℕ) → 0 < w → k < w * h → k / w < h
row_below k w h p l = elim (cases_lt (k / w) h) [
  | inl q ↦ q
  | inr q ↦ absurd (let a = mul-le-mul_left w q in omega (arith, a))
]

-- each numbered cell of a range is within it and one of the sheet
pub within_range : (shape : Shape) (area : Rect) (k : ℕ) → k < width shape area * height shape area → IsWithin area (cell_of area (width shape area) k) × IsInside shape (cell_of area (width shape area) k)
within_range shape area k l =
    let w = width shape area in
    let h = height shape area in
    let p = some_columns w h k l in
    let r = row_below k w h p l in
    let m : k % w < w = omega arith in (
      record { from_left = omega arith; to_right = omega arith; from_top = omega arith; to_bottom = omega arith },
      record { column = omega arith; row = omega arith },
    )

-- the number of a cell in a range
pub number_in : (shape : Shape) (area : Rect) (c : Cell) → IsWithin area c → IsInside shape c → (k : ℕ) × (k < width shape area * height shape area) × (cell_of area (width shape area) k ≡ c)
number_in shape area c v i =
    let w = width shape area in
    let h = height shape area in
    let x = c.column - area.first.column in
    let y = c.row - area.first.row in
    let p : x < w = omega (arith, v.from_left, v.to_right, i.column) in
    let q : y < h = omega (arith, v.from_top, v.to_bottom, i.row) in
    let m = mod-mul-add y w x p in
    let k = y * w + x in
    let d = div-mul-add y w x p in
    (k, mul-add-lt y w x h q p, same_cell (cell_of area w k) c (omega (arith, v.from_left, m)) (omega (arith, v.from_top, d)))
