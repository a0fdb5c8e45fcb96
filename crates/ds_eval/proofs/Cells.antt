-- Cells in reading order, and entries of cells in ascending lists.
use Rattle.std.proofs.Common.{◌≡◌, ℕ, zero, suc, ◌+◌, ◌<◌, ◌==◌, ◌&&◌, Bool, true, false, List, [], ◌∷◌, length, refl, sym, ap, subst, ◌∙◌, inl, inr, arith, get_or-set_same, get_or-set_other}
use Rattle.std.proofs.Math.ListN.{length-set}
use Rattle.std.proofs.lemmas.Bool.{cases_lt, cases_eq}
use Rattle.std.proofs.lemmas.Bool.Decides.{nat_tests}
use Rattle.ds_formula.specs.declared.cells.Cell.{Cell}
use Rattle.ds_eval.specs.declared.inputs.Entry.{Entry}
use Rattle.ds_eval.specs.declared.inputs.Input.{Input}
use Rattle.ds_formula.specs.Refs.{IsBefore}
use Rattle.ds_eval.specs.Inputs.{IsAscending, entry_in, entry_at, with_entry, cell_in, no_entry, no_input, is_same_cell}

pub before_before : (a b c : Cell) → IsBefore a b → IsBefore b c → IsBefore a c
before_before a b c (inl p) (inl q) = inl (omega arith)
before_before a b c (inl p) (inr q) = inl (omega (arith, q.0))
before_before a b c (inr p) (inl q) = inl (omega (arith, p.0))
before_before a b c (inr p) (inr q) = inr (p.0 ∙ q.0, omega (arith, p.1, q.1))

pub never_before : (a b : Cell) → IsBefore a b → a ≡ b → ⊥
never_before a b (inl p) e = let k = ap (λ (c : Cell). c.row) e in omega arith
never_before a b (inr p) e = let k = ap (λ (c : Cell). c.column) e in omega (arith, p.1)

-- cells of the same column and row are equal
pub same_cell : (a b : Cell) → a.column ≡ b.column → a.row ≡ b.row → a ≡ b
same_cell a b p q = ap (λ (x : ℕ). let c : Cell = record { column = x; row = a.row } in c) p ∙ ap (λ (x : ℕ). let c : Cell = record { column = b.column; row = x } in c) q

eq_self : (n : ℕ) → (n == n) ≡ true
eq_self n = grind (arith, nat_tests)

pub is_same_self : (a : Cell) → is_same_cell a a ≡ true
is_same_self a = rw (eq_self a.column, eq_self a.row) refl

both_true : (p q : Bool) → (p && q) ≡ true → (p ≡ true) × (q ≡ true)
both_true true q e = (refl, e)
both_true false q e = absurd cc

eq_true : (m n : ℕ) → (m == n) ≡ true → m ≡ n
eq_true m n e = grind (arith, nat_tests)

-- cells that the test takes for one are equal
pub is_same_true : (a b : Cell) → is_same_cell a b ≡ true → a ≡ b
is_same_true a b e = let p = both_true (a.column == b.column) (a.row == b.row) e in same_cell a b (eq_true _ _ p.0) (eq_true _ _ p.1)

pub is_same_false : (a b : Cell) → (a ≡ b → ⊥) → is_same_cell a b ≡ false
is_same_false a b n = go (is_same_cell a b) refl
  where
    go : (x : Bool) → is_same_cell a b ≡ x → x ≡ false
    go true e = absurd (n (is_same_true a b e))
    go false e = refl

-- ---- the entry of a cell

-- a cell's entry is that of the first input that has the cell
pub entry_here : (xs : List Input) (k : ℕ) (c : Cell) → k < length xs → ((j : ℕ) → j < k → cell_in xs j ≡ c → ⊥) → cell_in xs k ≡ c → entry_in xs c ≡ entry_at xs k
entry_here [] k c h n e = absurd (omega arith)
entry_here (x ∷ xs) zero c h n e = rw (ap (λ (d : Cell). is_same_cell d c) e ∙ is_same_self c) refl
entry_here (x ∷ xs) (suc k) c h n e =
    rw (is_same_false x.cell c (n zero (omega arith))) (entry_here xs k c (omega arith) (λ j l. n (suc j) (omega arith)) e)

-- a cell that no input has shows no entry
pub entry_nowhere : (xs : List Input) (c : Cell) → ((k : ℕ) → k < length xs → cell_in xs k ≡ c → ⊥) → entry_in xs c ≡ no_entry
entry_nowhere [] c n = refl
entry_nowhere (x ∷ xs) c n = rw (is_same_false x.cell c (n zero (omega arith))) (entry_nowhere xs c (λ k l. n (suc k) (omega arith)))

-- among ascending inputs, a cell's entry is that of the one input that has the cell
pub entry_found : (xs : List Input) (k : ℕ) (c : Cell) → IsAscending xs → k < length xs → cell_in xs k ≡ c → entry_in xs c ≡ entry_at xs k
entry_found xs k c a h e = entry_here xs k c h (λ j l s. never_before (cell_in xs j) (cell_in xs k) (a.ascend j k l h) (s ∙ sym e)) e

-- ---- another entry

-- another entry for an input leaves each input's cell
pub cell_with : (xs : List Input) (k : ℕ) (e : Entry) (j : ℕ) → k < length xs → cell_in (with_entry xs k e) j ≡ cell_in xs j
cell_with xs k e j h = elim (cases_eq j k) [
  | inl p ↦ rw p (ap (λ (i : Input). i.cell) (get_or-set_same xs k (let i : Input = record { cell = cell_in xs k; entry = e } in i) no_input h))
  | inr n ↦ ap (λ (i : Input). i.cell) (get_or-set_other xs k j (let i : Input = record { cell = cell_in xs k; entry = e } in i) no_input n)
]

-- ---- halving

-- where an input's cell comes before a cell, so do those of all inputs up to it
pub low_half : (xs : List Input) (m : ℕ) (c : Cell) → IsAscending xs → m < length xs → IsBefore (cell_in xs m) c → (k : ℕ) → k < m + 1 → IsBefore (cell_in xs k) c
low_half xs m c a h b k l = elim (cases_lt k m) [
  | inl p ↦ before_before (cell_in xs k) (cell_in xs m) c (a.ascend k m p h) b
  | inr p ↦ subst (λ (j : ℕ). IsBefore (cell_in xs j) c) (let e : m ≡ k = omega arith in e) b
]

-- inputs ascend with another entry for one of them, too
pub ascending_with : (xs : List Input) (k : ℕ) (e : Entry) → k < length xs → IsAscending xs → IsAscending (with_entry xs k e)
ascending_with xs k e h a = record {
  ascend = λ i j l m. rw (cell_with xs k e i h, cell_with xs k e j h) (a.ascend i j l (omega (arith, length-set {A = Input})));
}
