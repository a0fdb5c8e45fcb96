-- What stands in lists.
use Rattle.std.proofs.Common.{ℕ, zero, suc, ◌≡◌, ◌<◌, refl, subst, inl, inr, List, [], ◌∷◌, ◌++◌, length, map, get_or, arith}
use Rattle.std.specs.Prelude.{◌≢◌, ◌⊎◌, All, AllPairs, Contains}
use Rattle.std.proofs.lemmas.List.Elements.{All-append, All-map, Contains-get_or}
use Rattle.std.proofs.lemmas.List.Kept.{AllPairs-cons}

-- the first of a list is one of it
pub contains_head : {X : Type 0} (x : X) (xs : List X) → Contains (x ∷ xs) x
contains_head x xs = (zero, omega arith, refl)

-- what stands in the rest of a list stands in it
pub contains_tail : {X : Type 0} (x y : X) (xs : List X) → Contains xs y → Contains (x ∷ xs) y
contains_tail x y xs h = (suc h.0, (let low = h.1 in omega (arith, low)), h.2)

-- what stands in a list is its first, or stands in the rest
pub contains_cases : {X : Type 0} (x y : X) (xs : List X) → Contains (x ∷ xs) y → (x ≡ y) ⊎ Contains xs y
contains_cases x y xs h = by_place h.0 h.1 h.2
  where
    by_place : (k : ℕ) → k < length (x ∷ xs) → get_or (x ∷ xs) k y ≡ y → (x ≡ y) ⊎ Contains xs y
    by_place zero low is = inl is
    by_place (suc k) low is = inr (k, omega (arith, low), is)

-- what a function gives of one of a list stands in what it gives of the list
pub contains_map : {X Y : Type 0} (f : X → Y) (x : X) (xs : List X) → Contains xs x → Contains (map f xs) (f x)
contains_map f x [] h = absurd (let low = h.1 in let bad : ⊥ = omega (arith, low) in bad)
contains_map f x (y ∷ ys) h = elim (contains_cases y x ys h) [
  | inl e ↦ subst (λ z. Contains (map f (y ∷ ys)) (f z)) e (contains_head (f y) (map f ys))
  | inr there ↦ contains_tail (f y) (f x) (map f ys) (contains_map f x ys there)
]

-- what is so of each one of the list
pub all_by : {X : Type 0} (P : X → Type 0) (xs : List X) → ((x : X) → Contains xs x → P x) → All P xs
all_by P xs h = λ k d low. h (get_or xs k d) (Contains-get_or xs k d low)

-- what is so of each two is so of the first and each later one
pub pairs_head : {X : Type 0} (R : X → X → Type 0) (x y : X) (xs : List X) → AllPairs R (x ∷ xs) → Contains xs y → R x y
pairs_head R x y xs pairs h = subst (λ z. R x z) h.2 (pairs zero (suc h.0) y (omega arith) (let low = h.1 in omega (arith, low)))

-- and of each two of the rest
pub pairs_tail : {X : Type 0} (R : X → X → Type 0) (x : X) (xs : List X) → AllPairs R (x ∷ xs) → AllPairs R xs
pairs_tail R x xs pairs = λ i j d less low. pairs (suc i) (suc j) d (omega (arith, less)) (omega (arith, low))

-- it is so of each two of no list
pub pairs_none : {X : Type 0} (R : X → X → Type 0) → AllPairs R []
pairs_none R = λ i j d less low. absurd (let bad : ⊥ = omega (arith, low) in bad)

-- it is so of each two of two lists where it is so of each two of either, and of each one of the first with each of the second
pub pairs_append : {X : Type 0} (R : X → X → Type 0) (xs ys : List X) → AllPairs R xs → AllPairs R ys → ((x y : X) → Contains xs x → Contains ys y → R x y) → AllPairs R (xs ++ ys)
pairs_append R [] ys p q cross = q
pairs_append R (x ∷ xs) ys p q cross =
    AllPairs-cons R x (xs ++ ys)
    (All-append (R x) xs ys (all_by (R x) xs (λ y there. pairs_head R x y xs p there)) (all_by (R x) ys (λ y there. cross x y (contains_head x xs) there)))
    (pairs_append R xs ys (pairs_tail R x xs p) q (λ z y there other. cross z y (contains_tail x z xs there) other))

-- where a function gives different things of different ones, what it gives of different ones is different
pub pairs_map : {X Y : Type 0} (f : X → Y) → ((a b : X) → f a ≡ f b → a ≡ b) → (xs : List X) → AllPairs (λ a b. a ≢ b) xs → AllPairs (λ a b. a ≢ b) (map f xs)
pairs_map f injective [] pairs = pairs_none (λ a b. a ≢ b)
pairs_map f injective (x ∷ xs) pairs =
    AllPairs-cons (λ a b. a ≢ b) (f x) (map f xs)
    (All-map (λ b. f x ≢ b) f xs (all_by (λ y. f x ≢ f y) xs (λ y there e. pairs_head (λ a b. a ≢ b) x y xs pairs there (injective x y e))))
    (pairs_map f injective xs (pairs_tail (λ a b. a ≢ b) x xs pairs))
