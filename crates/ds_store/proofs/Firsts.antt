-- The first of some lines.
use Rattle.std.proofs.Common.{◌≡◌, ℕ, zero, suc, List, [], ◌∷◌, length, map, take, min, refl, ap, arith}

-- the first of lines that are the first of others
pub first_of_first : {A : Type 0} (f : A → List ℕ) (n : ℕ) (all : List A) (held : List (List ℕ)) → map f all ≡ take (length all) held
    → map f (take n all) ≡ take (length (take n all)) held
first_of_first f zero all held is = refl
first_of_first f (suc n) [] held is = refl
first_of_first f (suc n) (a ∷ all) [] is = absurd cc
first_of_first f (suc n) (a ∷ all) (line ∷ held) is =
    let first : f a ≡ line = cc in
    let rest : map f all ≡ take (length all) held = cc in
    rw first (ap (λ ls. line ∷ ls) (first_of_first f n all held rest))

-- as many of all lines as there are, or as are asked for
pub as_asked : {A : Type 0} (f : A → List ℕ) (n most : ℕ) (all : List A) (held : List (List ℕ)) → map f all ≡ held → n ≡ min (length all) most
    → map f (take n all) ≡ take most held
as_asked f zero zero all held is few = refl
as_asked f (suc n) zero all held is few = absurd (omega (arith, few))
as_asked f zero (suc most) [] [] is few = refl
as_asked f (suc n) (suc most) [] [] is few = refl
as_asked f n (suc most) [] (line ∷ held) is few = absurd cc
as_asked f n (suc most) (a ∷ all) [] is few = absurd cc
as_asked f zero (suc most) (a ∷ all) (line ∷ held) is few = absurd (omega (arith, few))
as_asked f (suc n) (suc most) (a ∷ all) (line ∷ held) is few =
    let first : f a ≡ line = cc in
    let rest : map f all ≡ held = cc in
    rw first (ap (λ ls. line ∷ ls) (as_asked f n most all held rest (omega (arith, few))))

-- all of the lines are the first of them
pub all_begin : {A : Type 0} (f : A → List ℕ) (all : List A) (held : List (List ℕ)) → map f all ≡ held → map f all ≡ take (length all) held
all_begin f [] held is = refl
all_begin f (a ∷ all) [] is = absurd cc
all_begin f (a ∷ all) (line ∷ held) is =
    let first : f a ≡ line = cc in
    let rest : map f all ≡ held = cc in
    rw first (ap (λ ls. line ∷ ls) (all_begin f all held rest))
