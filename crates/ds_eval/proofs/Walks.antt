-- A walk of as many steps as there are cells can be made as long as one likes.
use Rattle.std.proofs.Common.{◌≡◌, ◌⊎◌, ℕ, zero, suc, ◌+◌, ◌-◌, ◌<◌, ◌≤◌, Bool, true, false, leb, if◌then◌else◌, refl, sym, ap, subst, ◌∙◌, inl, inr, arith}
use Rattle.std.proofs.lemmas.Bool.{cases_lt}
use Rattle.std.proofs.lemmas.Bool.Decides.{nat_tests}
use Rattle.std.proofs.lemmas.Nat.{mul-add-lt, mod-mul-add, div-mul-add}
use Rattle.ds_formula.specs.declared.cells.Shape.{Shape}
use Rattle.ds_formula.specs.declared.cells.Cell.{Cell}
use Rattle.ds_formula.specs.Cells.{IsInside, index_of, cell_at, count_of}
use Rattle.ds_formula.specs.Plain.{PlainContent}
use Rattle.ds_eval.specs.Scratch.{Walk, Runs, WalkLaw}
use Rattle.ds_eval.specs.Local.{content_height}
use Rattle.ds_eval.proofs.Cells.{same_cell}
use Rattle.ds_eval.proofs.Neighbours.{reached, bound}

-- ---- the cells by their numbers

-- a cell of the sheet has a number below the number of cells
pub index_below : (shape : Shape) (c : Cell) → IsInside shape c → index_of shape c < count_of shape
index_below shape c i = mul-add-lt c.row shape.columns c.column shape.rows i.row i.column

-- a cell of the sheet is the one with its number
pub cell_back : (shape : Shape) (c : Cell) → IsInside shape c → cell_at shape (index_of shape c) ≡ c
cell_back shape c i = same_cell (cell_at shape (index_of shape c)) c (mod-mul-add c.row shape.columns c.column i.column) (div-mul-add c.row shape.columns c.column i.column)

-- ---- how many of the first numbers pass a test

count : (ℕ → Bool) → ℕ → ℕ
count p zero = 0
count p (suc n) = if p n then suc (count p n) else count p n

count_most : (p : ℕ → Bool) (n : ℕ) → count p n ≤ n
unfolding count
count_most p zero = omega arith
count_most p (suc n) = go (p n) (count_most p n)
  where
    go : (b : Bool) → count p n ≤ n → (if b then suc (count p n) else count p n) ≤ suc n
    go true l = omega arith
    go false l = omega arith

count_none : (p : ℕ → Bool) (n k : ℕ) → count p n ≡ 0 → k < n → p k ≡ true → ⊥
unfolding count
count_none p zero k e l t = omega arith
count_none p (suc n) k e l t = go (p n) refl e (λ z m. count_none p n k z m t)
  where
    go : (b : Bool) → p n ≡ b → (if b then suc (count p n) else count p n) ≡ 0 → (count p n ≡ 0 → k < n → ⊥) → ⊥
    go true q e f = omega (arith, e)
    go false q e f = elim (cases_lt k n) [
      | inl m ↦ f e m
      | inr m ↦ let x : k ≡ n = omega arith in let y : true ≡ false = sym t ∙ ap p x ∙ q in cc
    ]

-- fewer pass the second test, or the same ones
record Fewer (p q : ℕ → Bool) (n : ℕ) : Type 0 where
  at_most : count q n ≤ count p n
  same_or : ((k : ℕ) → k < n → p k ≡ true → q k ≡ true) ⊎ (count q n < count p n)

fewer : (p q : ℕ → Bool) (n : ℕ) → ((k : ℕ) → k < n → q k ≡ true → p k ≡ true) → Fewer p q n
unfolding count
fewer p q zero h = record { at_most = omega arith; same_or = inl (λ k l. absurd (omega arith)) }
fewer p q (suc n) h = go (p n) (q n) refl refl (fewer p q n (λ k l. h k (omega arith)))
  where
    below : (b : Bool) → p n ≡ b → (b ≡ true → q n ≡ true) → ((k : ℕ) → k < n → p k ≡ true → q k ≡ true) → (k : ℕ) → k < suc n → p k ≡ true → q k ≡ true
    below b e f s k l t = elim (cases_lt k n) [
      | inl m ↦ s k m t
      | inr m ↦ let x : n ≡ k = omega arith in subst (λ (j : ℕ). q j ≡ true) x (f (sym e ∙ ap p x ∙ t))
    ]

    go : (a b : Bool) → p n ≡ a → q n ≡ b → Fewer p q n → Fewer p q (suc n)
    go true true e d f = record {
      at_most = rw (e, d) (omega (arith, f.at_most));
      same_or = elim f.same_or [ inl s ↦ inl (below true e (λ _. d) s) | inr s ↦ inr (rw (e, d) (omega (arith, s))) ];
    }
    go true false e d f = record { at_most = rw (e, d) (omega (arith, f.at_most)); same_or = inr (rw (e, d) (omega (arith, f.at_most))) }
    go false true e d f = absurd (let x : false ≡ true = sym e ∙ h n (omega arith) d in cc)
    go false false e d f = record {
      at_most = rw (e, d) (omega (arith, f.at_most));
      same_or = elim f.same_or [ inl s ↦ inl (below false e (λ x. absurd cc) s) | inr s ↦ inr (rw (e, d) (omega (arith, s))) ];
    }

-- ---- walks

module _ (shape : Shape) (sheet : Cell → PlainContent) where
  -- a walk without its last step
  pub shorter : (n : ℕ) (c : Cell) → Walk shape sheet (suc n) c → Walk shape sheet n c
  shorter zero c w = tt
  shorter (suc n) c w = (w.0, w.1, w.2, shorter n w.0 w.3)

  -- the length of the longest walk, of at most n steps
  abbrev longest : ℕ → Cell → ℕ
  longest zero c = 0
  longest (suc n) c = content_height shape (longest n) (sheet c)

  longest_walk : (n : ℕ) (c : Cell) (k : ℕ) → k ≤ longest n c → Walk shape sheet k c
  longest_walk n c zero e = tt
  longest_walk zero c (suc k) e = absurd (omega arith)
  longest_walk (suc n) c (suc k) e = let r = reached shape (longest n) (sheet c) k e in (r.0, r.1, r.2, longest_walk n r.0 k r.3)

  walk_longest : (n : ℕ) (c : Cell) (k : ℕ) → k ≤ n → Walk shape sheet k c → k ≤ longest n c
  walk_longest n c zero l w = omega arith
  walk_longest zero c (suc k) l w = absurd (omega arith)
  walk_longest (suc n) c (suc k) l w =
      let a = walk_longest n w.0 k (omega arith) w.3 in
      let b = bound shape (longest n) (sheet c) w.0 w.1 w.2 in
      omega (arith, a, b)

  -- whether a walk of n steps begins at the cell with this number
  test : ℕ → ℕ → Bool
  test n k = leb n (longest n (cell_at shape k))

  test_walk : (n k : ℕ) → test n k ≡ true → Walk shape sheet n (cell_at shape k)
  unfolding test
  test_walk n k e = longest_walk n (cell_at shape k) n (grind (arith, nat_tests))

  walk_test : (n k : ℕ) → Walk shape sheet n (cell_at shape k) → test n k ≡ true
  unfolding test
  walk_test n k w = let l = walk_longest n (cell_at shape k) n (omega arith) w in grind (arith, nat_tests)

  -- each walk of n steps can be made one step longer
  abbrev IsSteady : ℕ → Type 0
  IsSteady n = (c : Cell) → IsInside shape c → Walk shape sheet n c → Walk shape sheet (suc n) c

  grows : (n i : ℕ) → IsSteady n → (c : Cell) → IsInside shape c → Walk shape sheet n c → Walk shape sheet (i + n) c
  grows n zero s c h w = subst (λ (x : ℕ). Walk shape sheet x c) (let e : n ≡ 0 + n = omega arith in e) w
  grows n (suc i) s c h w =
      let v = s c h w in
      subst (λ (x : ℕ). Walk shape sheet x c) (let e : suc (i + n) ≡ suc i + n = omega arith in e) (v.0, v.1, v.2, grows n i s v.0 v.2 v.3)

  cut : (k i : ℕ) (c : Cell) → Walk shape sheet (i + k) c → Walk shape sheet k c
  cut k zero c w = subst (λ (x : ℕ). Walk shape sheet x c) (let e : 0 + k ≡ k = omega arith in e) w
  cut k (suc i) c w = cut k i c (shorter (i + k) c (subst (λ (x : ℕ). Walk shape sheet x c) (let e : suc i + k ≡ suc (i + k) = omega arith in e) w))

  steady_from : (n : ℕ) → ((k : ℕ) → k < count_of shape → test n k ≡ true → test (suc n) k ≡ true) → IsSteady n
  steady_from n h c i w =
      let b = cell_back shape c i in
      subst (Walk shape sheet (suc n)) b (test_walk (suc n) (index_of shape c) (h (index_of shape c) (index_below shape c i) (walk_test n (index_of shape c) (subst (Walk shape sheet n) (sym b) w))))

  shrinks : (n : ℕ) → ((m : ℕ) × (m < n) × IsSteady m) ⊎ (count (test n) (count_of shape) + n ≤ count_of shape)
  shrinks zero = inr (omega (arith, count_most (test 0) (count_of shape)))
  shrinks (suc n) =
      let f = fewer (test n) (test (suc n)) (count_of shape) (λ k l t. walk_test n k (shorter n (cell_at shape k) (test_walk (suc n) k t))) in
      elim (shrinks n) [
        | inl s ↦ inl (s.0, omega (arith, s.1), s.2)
        | inr s ↦ elim f.same_or [
          | inl e ↦ inl (n, omega arith, steady_from n e)
          | inr e ↦ inr (omega (arith, e, s))
        ]
      ]

  runs_on : (c : Cell) → IsInside shape c → Runs shape sheet c → (k : ℕ) → Walk shape sheet k c
  runs_on c i w k = elim (shrinks (count_of shape)) [
    | inr s ↦ absurd (count_none (test (count_of shape)) (count_of shape) (index_of shape c) (omega (arith, s)) (index_below shape c i) (walk_test (count_of shape) (index_of shape c) (subst (Walk shape sheet (count_of shape)) (sym (cell_back shape c i)) w)))
    | inl s ↦
        let m = s.0 in
        let v = cut m (count_of shape - m) c (subst (λ (x : ℕ). Walk shape sheet x c) (let e : count_of shape ≡ (count_of shape - m) + m = omega (arith, s.1) in e) w) in
        elim (cases_lt k m) [
          | inl l ↦ cut k (m - k) c (subst (λ (x : ℕ). Walk shape sheet x c) (let e : m ≡ (m - k) + k = omega arith in e) v)
          | inr l ↦ subst (λ (x : ℕ). Walk shape sheet x c) (let e : (k - m) + m ≡ k = omega arith in e) (grows m (k - m) s.2 c i v)
        ]
  ]

  pub walk_law : (c : Cell) → IsInside shape c → WalkLaw shape sheet c
  walk_law c i = record { runs_on = runs_on c i; runs = λ all. all (count_of shape) }

  -- references run for ever from a cell, or they do not
  pub runs_or_not : (c : Cell) → Runs shape sheet c ⊎ (Runs shape sheet c → ⊥)
  runs_or_not c = elim (cases_lt (longest (count_of shape) c) (count_of shape)) [
    | inl l ↦ inr (λ w. let m = walk_longest (count_of shape) c (count_of shape) (omega arith) w in omega arith)
    | inr l ↦ inl (longest_walk (count_of shape) c (count_of shape) l)
  ]
