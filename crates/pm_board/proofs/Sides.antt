-- Where the sides of words lie on a table.
use Rattle.std.proofs.Common.{ℕ, ◌≡◌, ◌⊎◌, ◌+◌, ◌*◌, ◌<◌, ◌≤◌, ◌∙◌, Bool, ltb, if◌then◌else◌, ap, inl, inr, sym, subst, zero, suc, arith}
use Rattle.std.proofs.lemmas.Bool.{cases_lt, cases_eq, lt-ltb, le-ltb}
use Rattle.pm_board.specs.Table.{cached_at, persisted_at}
use Rattle.pm_board.specs.Rule.{IsSideOf}

pub lies_apart : (apart n : ℕ) → n < apart → cached_at apart n ≡ 8 * n
unfolding cached_at
lies_apart apart n low = ap (λ (b : Bool). if b then 8 * n else 6 * apart + 2 * n) (lt-ltb n apart low)

pub lies_beside : (apart n : ℕ) → apart ≤ n → cached_at apart n ≡ 6 * apart + 2 * n
unfolding cached_at
lies_beside apart n high = ap (λ (b : Bool). if b then 8 * n else 6 * apart + 2 * n) (le-ltb n apart high)

-- both sides of a word lie before the next one
pub before : (apart n m : ℕ) → n < m → persisted_at apart n < cached_at apart m
before apart n m less = elim (cases_lt n apart) [
  | inl low ↦ elim (cases_lt m apart) [
    | inl lower ↦ (let x = lies_apart apart n low in let y = lies_apart apart m lower in omega arith)
    | inr high ↦ (let x = lies_apart apart n low in let y = lies_beside apart m high in omega arith)
  ]
  | inr high ↦ (let x = lies_beside apart n high in let y = lies_beside apart m (omega arith) in omega arith)
]

pub positive : (apart n : ℕ) → 0 < n → 0 < cached_at apart n
positive apart n some = let b = before apart 0 n some in omega arith

-- no word takes more than eight of the table's words
pub few : (apart n : ℕ) → cached_at apart n ≤ 8 * n
few apart n = elim (cases_lt n apart) [ inl low ↦ (let x = lies_apart apart n low in omega arith) | inr high ↦ (let x = lies_beside apart n high in omega arith) ]

-- two words have no side in common
pub same_cached : (apart n m : ℕ) → cached_at apart n ≡ cached_at apart m → n ≡ m
same_cached apart n m same = elim (cases_lt n m) [
  | inl less ↦ absurd (let b = before apart n m less in omega arith)
  | inr other ↦ elim (cases_lt m n) [ inl less ↦ absurd (let b = before apart m n less in omega arith) | inr more ↦ omega arith ]
]

pub no_sides : (apart n m : ℕ) → cached_at apart n ≡ persisted_at apart m → ⊥
no_sides apart n m same = elim (cases_lt n m) [
  | inl less ↦ (let b = before apart n m less in omega arith)
  | inr other ↦ elim (cases_lt m n) [
    | inl less ↦ (let b = before apart m n less in omega arith)
    | inr more ↦ (let e : n ≡ m = omega arith in let at : cached_at apart n ≡ cached_at apart m = ap (cached_at apart) e in omega arith)
  ]
]

pub one_word : (apart i n m : ℕ) → IsSideOf apart i n → IsSideOf apart i m → n ≡ m
one_word apart i n m (inl a) (inl b) = same_cached apart n m (sym a ∙ b)
one_word apart i n m (inl a) (inr b) = absurd (no_sides apart n m (sym a ∙ b))
one_word apart i n m (inr a) (inl b) = absurd (no_sides apart m n (sym b ∙ a))
one_word apart i n m (inr a) (inr b) = same_cached apart n m (omega (arith, a, b))

-- a number of the table is a side of one of the first n words, or of none of them
pub data Side (apart i n : ℕ) : Type 0 where
  of_word : (r : ℕ) → r < n → IsSideOf apart i r → Side apart i n
  of_none : ((r : ℕ) → r < n → IsSideOf apart i r → ⊥) → Side apart i n

pub side : (apart i n : ℕ) → Side apart i n
side apart i zero = of_none (λ r low is. absurd (omega arith))
side apart i (suc n) = with_last (side apart i n) (cases_eq i (cached_at apart n)) (cases_eq i (persisted_at apart n))
  where
    with_last : Side apart i n → ((i ≡ cached_at apart n) ⊎ (i ≡ cached_at apart n → ⊥)) → ((i ≡ persisted_at apart n) ⊎ (i ≡ persisted_at apart n → ⊥)) → Side apart i (suc n)
    with_last earlier (inl same) q = of_word n (omega arith) (inl same)
    with_last earlier (inr ne) (inl same) = of_word n (omega arith) (inr same)
    with_last (of_word r low is) (inr ne) (inr other) = of_word r (omega arith) is
    with_last (of_none none) (inr ne) (inr other) = of_none (λ r low is. elim (cases_lt r n) [
      | inl less ↦ none r less is
      | inr last ↦ (let e : r ≡ n = omega arith in elim (subst (IsSideOf apart i) e is) [ inl a ↦ ne a | inr a ↦ other a ])
    ])
