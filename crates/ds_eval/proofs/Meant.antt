-- Heights, the cells of a range and floor division, by what they mean.
use Rattle.std.proofs.Common.{◌≡◌, ◌≢◌, ℕ, zero, suc, ◌-◌, ◌*◌, ◌/◌, ◌<◌, ℤ, pos, negsuc, ◌+ℤ◌, ◌*ℤ◌, ◌<ℤ◌, neg_ℤ, [], ◌∷◌, ◌++◌, get_or, refl, sym, ap, subst, ◌∙◌, inl, inr, arith}
use Rattle.std.proofs.Math.Nat.{mul-le-mul_left}
use Rattle.std.proofs.lemmas.Bool.{cases_lt}
use Rattle.std.proofs.lemmas.Int.{ints}
use Rattle.std.proofs.lemmas.List.Elements.{Contains-get_or, Contains-push, Contains-push_cases, Contains-append_left}
use Rattle.std.proofs.lemmas.List.Quantifiers.{all_pairs_push}
use Rattle.std.specs.List.{Contains, AllPairs}
use Rattle.ds_formula.specs.declared.cells.Shape.{Shape}
use Rattle.ds_formula.specs.declared.cells.Cell.{Cell}
use Rattle.ds_formula.specs.declared.cells.Rect.{Rect}
use Rattle.ds_formula.specs.Cells.{IsInside, IsWithin}
use Rattle.ds_formula.specs.Plain.{PlainContent}
use Rattle.ds_formula.specs.Refs.{IsBefore}
use Rattle.ds_eval.specs.Numbers.{floor_div}
use Rattle.ds_eval.specs.Evaluation.{width, height, cell_of, first_cells, cells_of}
use Rattle.ds_eval.specs.Local.{content_height}
use Rattle.ds_eval.specs.Meanings.{IsAbove, AreCellsOf, IsFloor}
use Rattle.ds_eval.proofs.Neighbours.{reached, bound}
use Rattle.ds_eval.proofs.Ranges.{within_range, number_in}

-- ---- heights

-- a content's height is one more than the greatest of the sheet's cells written in it, 0 without one
pub height_is : (shape : Shape) (content : PlainContent) (heights : Cell → ℕ) → IsAbove shape content heights (content_height shape heights content)
height_is shape content heights =
    let most = content_height shape heights content in
    record {
      none = λ n. elim (cases_lt 0 most) [
        | inl l ↦ let r = reached shape heights content 0 l in absurd (n r.0 r.1 r.2)
        | inr l ↦ omega (arith, l)
      ];
      some = λ l.
          let r = reached shape heights content (most - 1) (omega (arith, l)) in
          let b = bound shape heights content r.0 r.1 r.2 in
          (r.0, r.1, r.2, omega (arith, l, r.3, b));
      each = λ d r i. bound shape heights content d r i;
    }

-- ---- the cells of a range

before_in : (area : Rect) (columns j k : ℕ) → 0 < columns → j < k → IsBefore (cell_of area columns j) (cell_of area columns k)
before_in area w j k p l = elim (cases_lt (j / w) (k / w)) [
  | inl m ↦ inl (omega arith)
  | inr m ↦ elim (cases_lt (k / w) (j / w)) [
    | inl n ↦ absurd (let a = mul-le-mul_left w n in omega (arith, a, p))
    | inr n ↦ let e : j / w ≡ k / w = omega arith in let a = ap (λ (x : ℕ). w * x) e in inr (omega (arith, e), omega (arith, a, p))
  ]
]

-- a cell among the first ones has a number below
pub among_first : (area : Rect) (columns n : ℕ) (c : Cell) → Contains (first_cells area columns n) c → (k : ℕ) × (k < n) × (cell_of area columns k ≡ c)
among_first area columns zero c h = absurd (omega (arith, h.1))
among_first area columns (suc n) c h = elim (Contains-push_cases (first_cells area columns n) (cell_of area columns n) c h) [
  | inl old ↦ let w = among_first area columns n c old in (w.0, omega (arith, w.1), w.2)
  | inr same ↦ (n, omega arith, same)
]

has_first : (area : Rect) (columns n k : ℕ) → k < n → Contains (first_cells area columns n) (cell_of area columns k)
has_first area columns zero k l = absurd (omega arith)
has_first area columns (suc n) k l = elim (cases_lt k n) [
  | inl m ↦ Contains-append_left (first_cells area columns n) (cell_of area columns n ∷ []) (cell_of area columns k) (has_first area columns n k m)
  | inr m ↦ let e : n ≡ k = omega arith in
      subst (λ (j : ℕ). Contains (first_cells area columns n ++ cell_of area columns n ∷ []) (cell_of area columns j)) e (Contains-push (first_cells area columns n) (cell_of area columns n))
]

first_ascend : (area : Rect) (columns n : ℕ) → 0 < columns → AllPairs IsBefore (first_cells area columns n)
first_ascend area columns zero p = λ i j d l m. absurd (omega (arith, m))
first_ascend area columns (suc n) p = all_pairs_push IsBefore (first_cells area columns n) (cell_of area columns n) (first_ascend area columns n p) (λ k d l.
    let w = among_first area columns n (get_or (first_cells area columns n) k d) (Contains-get_or (first_cells area columns n) k d l) in
    subst (λ (c : Cell). IsBefore c (cell_of area columns n)) w.2 (before_in area columns w.0 n p w.1))

all_ascend : (area : Rect) (columns rows : ℕ) → AllPairs IsBefore (first_cells area columns (columns * rows))
all_ascend area zero rows = subst (λ (n : ℕ). AllPairs IsBefore (first_cells area 0 n)) (let e : 0 ≡ 0 * rows = omega arith in e) (λ i j d l m. absurd (omega (arith, m)))
all_ascend area (suc w) rows = first_ascend area (suc w) (suc w * rows) (omega arith)

-- the cells listed of a range are those of the sheet within it, in reading order
pub cells_are : (shape : Shape) (area : Rect) → AreCellsOf shape area (cells_of shape area)
cells_are shape area =
    let w = width shape area in
    let n = w * height shape area in
    record {
      ascending = all_ascend area w (height shape area);
      only = λ c h.
          let k = among_first area w n c h in
          let r = within_range shape area k.0 k.1 in
          (subst (IsWithin area) k.2 r.0, subst (IsInside shape) k.2 r.1);
      all = λ c v i.
          let k = number_in shape area c v i in
          subst (λ (d : Cell). Contains (cells_of shape area) d) k.2 (has_first area w n k.0 k.1);
    }

-- ---- floor division

one_above : (q : ℕ) → negsuc q +ℤ pos 1 ≡ neg_ℤ (pos q)
one_above q = omega (arith, ints)

both_negative : (d q : ℕ) → negsuc d *ℤ neg_ℤ (pos q) ≡ pos (suc d * q)
both_negative d zero = omega (arith, ints)
both_negative d (suc q) = omega (arith, ints)

below_next : (n d : ℕ) → (negsuc d *ℤ (negsuc (n / suc d) +ℤ pos 1)) <ℤ pos (suc n)
below_next n d =
    let e : negsuc d *ℤ (negsuc (n / suc d) +ℤ pos 1) ≡ pos (suc d * (n / suc d)) = ap (λ (q : ℤ). negsuc d *ℤ q) (one_above (n / suc d)) ∙ both_negative d (n / suc d) in
    let l : suc d * (n / suc d) < suc n = omega arith in
    subst (λ (x : ℤ). x <ℤ pos (suc n)) (sym e) (omega (arith, ints, l))

one_negative : (d q : ℕ) → pos (suc d) *ℤ neg_ℤ (pos q) ≡ neg_ℤ (pos (suc d * q))
one_negative d zero = omega (arith, ints)
one_negative d (suc q) = omega (arith, ints)

above_it : (n d : ℕ) → negsuc n <ℤ (pos (suc d) *ℤ (negsuc (n / suc d) +ℤ pos 1))
above_it n d =
    let e : pos (suc d) *ℤ (negsuc (n / suc d) +ℤ pos 1) ≡ neg_ℤ (pos (suc d * (n / suc d))) = ap (λ (q : ℤ). pos (suc d) *ℤ q) (one_above (n / suc d)) ∙ one_negative d (n / suc d) in
    let l : suc d * (n / suc d) < suc n = omega arith in
    subst (λ (x : ℤ). negsuc n <ℤ x) (sym e) (omega (arith, ints, l))

-- the quotient by floor division is the whole number below a / b, or at it
pub floor_is : (a b : ℤ) → b ≢ pos 0 → IsFloor a b (floor_div a b)
floor_is (pos n) (pos zero) h = absurd (h refl)
floor_is (pos n) (pos (suc d)) h = record { of_positive = λ p. (omega (arith, ints), omega (arith, ints)); of_negative = λ p. absurd (omega (arith, ints)) }
floor_is (negsuc n) (pos zero) h = absurd (h refl)
floor_is (negsuc n) (pos (suc d)) h = record { of_positive = λ p. (omega (arith, ints), above_it n d); of_negative = λ p. absurd (omega (arith, ints)) }
floor_is (pos zero) (negsuc d) h = record { of_positive = λ p. absurd (omega (arith, ints)); of_negative = λ p. (omega (arith, ints), omega (arith, ints)) }
floor_is (pos (suc n)) (negsuc d) h = record { of_positive = λ p. absurd (omega (arith, ints)); of_negative = λ p. (omega (arith, ints), below_next n d) }
floor_is (negsuc n) (negsuc d) h = record { of_positive = λ p. absurd (omega (arith, ints)); of_negative = λ p. (omega (arith, ints), omega (arith, ints)) }
