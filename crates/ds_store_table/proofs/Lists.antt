-- Lists that grow by one.
use Rattle.std.proofs.Common.{◌≡◌, ℕ, zero, suc, List, [], ◌∷◌, ◌++◌, length, map, take, drop, get_or, slice_get, Some, sym, ap, ◌<◌, arith}

-- what was read so far are the first of the lines, and so it is with the next one
pub grows : {A : Type 0} (f : A → List ℕ) (olds : List A) (a : A) (lines : List (List ℕ)) → map f olds ≡ take (length olds) lines → slice_get lines (length olds) ≡ Some (f a)
    → map f (olds ++ a ∷ []) ≡ take (length (olds ++ a ∷ [])) lines
grows f [] a [] so at = absurd cc
grows f [] a (line ∷ lines) so at = let same : line ≡ f a = cc in ap (λ l. l ∷ []) (sym same)
grows f (o ∷ olds) a [] so at = absurd cc
grows f (o ∷ olds) a (line ∷ lines) so at =
    let first : f o ≡ line = cc in
    let rest : map f olds ≡ take (length olds) lines = cc in
    rw first (ap (λ ls. line ∷ ls) (grows f olds a lines rest at))

-- a list parts at one of its elements
pub parted : {A B C : Type 0} (h : B → C) (f : A → B) (xs : List A) (n : ℕ) (x : A) → slice_get xs n ≡ Some x → map h (map f xs) ≡ map h (map f (take n xs)) ++ h (f x) ∷ map h (map f (drop (suc n) xs))
parted h f [] n x at = absurd cc
parted h f (y ∷ xs) zero x at = let same : y ≡ x = cc in ap (λ v. h (f v) ∷ map h (map f xs)) same
parted h f (y ∷ xs) (suc n) x at = ap (λ l. h (f y) ∷ l) (parted h f xs n x at)

-- one of its elements more
pub one_longer : {A B C : Type 0} (h : B → C) (f : A → B) (xs : List A) (n : ℕ) (x : A) → slice_get xs n ≡ Some x → map h (map f (take n xs)) ++ h (f x) ∷ [] ≡ map h (map f (take (suc n) xs))
one_longer h f [] n x at = absurd cc
one_longer h f (y ∷ xs) zero x at = let same : y ≡ x = cc in ap (λ v. h (f v) ∷ []) (sym same)
one_longer h f (y ∷ xs) (suc n) x at = ap (λ l. h (f y) ∷ l) (one_longer h f xs n x at)

-- the same, mapped once
pub one_more : {A B : Type 0} (f : A → B) (xs : List A) (n : ℕ) (x : A) → slice_get xs n ≡ Some x → map f (take n xs) ++ f x ∷ [] ≡ map f (take (suc n) xs)
one_more f [] n x at = absurd cc
one_more f (y ∷ xs) zero x at = let same : y ≡ x = cc in ap (λ v. f v ∷ []) (sym same)
one_more f (y ∷ xs) (suc n) x at = ap (λ l. f y ∷ l) (one_more f xs n x at)

-- the element that a loop goes over stands there
pub there : {A : Type 0} (xs : List A) (n : ℕ) (x : A) → n < length xs → x ≡ get_or xs n x → slice_get xs n ≡ Some x
there [] n x low is = absurd (omega (arith, low))
there (y ∷ xs) zero x low is = ap Some (sym is)
there (y ∷ xs) (suc n) x low is = there xs n x (omega (arith, low)) is
