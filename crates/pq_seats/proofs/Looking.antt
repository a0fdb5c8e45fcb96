-- Homes that are looked at.
use Rattle.std.proofs.Common.{ℕ, suc, All, ◌∷◌, ◌≡◌, ◌<◌, ◌+◌, ◌++◌, [], List, map, length, get_or, refl, sym, ap, subst, ◌∙◌, ⊎_elim, arith}
use Rattle.std.proofs.lemmas.List.{get_or-set_same, get_or-set_other, length-map, length-set, get_or-map, append_assoc, append-nil, get_or_default}
use Rattle.std.proofs.Math.Seq.{map-set_same}
use Rattle.std.proofs.lemmas.Bool.Decides.{eqb_tells}
use Rattle.std.proofs.lemmas.List.FromFn.{get_or-range_with_len, length-range_with_len}
use Rattle.std.specs.List.{range_with_len}
use Rattle.std.specs.Prelude.{slice_set}
use Rattle.pq_seats.specs.Homes.{AreLooked, HomeLooked, IsFull, IsHomeOf}
use Rattle.pq_seats.specs.Known.{IsOf}
use Rattle.atomic_table.specs.Seated.{TableId}
use Rattle.pq_seats.specs.declared.ring.Home.{Home}

-- there are as many homes as processes
pub as_many : (homes : List Home) (n : ℕ) → map (λ (h : Home). h.process) homes ≡ range_with_len 0 n → length homes ≡ n
as_many homes n order = sym (length-map homes (λ (h : Home). h.process)) ∙ (ap length order ∙ length-range_with_len 0 n)

-- and each is that of the process of its number
pub process_at : (homes : List Home) (n k : ℕ) (d : Home) → map (λ (h : Home). h.process) homes ≡ range_with_len 0 n → k < n → (get_or homes k d).process ≡ k
process_at homes n k d order low =
    let below : k < length homes = omega (arith, as_many homes n order, low) in
    sym (get_or-map (λ (h : Home). h.process) homes k d 0 below) ∙ (ap (λ l. get_or l k 0) order ∙ (get_or-range_with_len 0 n k 0 low ∙ (omega arith)))

pub looked_twice : (a b c : Home) → HomeLooked a b → HomeLooked b c → HomeLooked a c
looked_twice a b c (p, (((w, s, n, h), cap), r, (rest, is))) (p', (((w', s', n', h'), cap'), r', (rest', is'))) = (
  p' ∙ p,
  (((w' ∙ w, s' ∙ s, n' ∙ n, h' ∙ h), cap' ∙ cap), r' ∙ r, (rest ++ rest', sym (append_assoc _ rest rest') ∙ (ap (λ l. l ++ rest') is ∙ is'))),
)

-- one home more is looked at
pub one_more : (xs ys : List Home) (n : ℕ) (y : Home) → n < length ys → HomeLooked (get_or ys n y) y → AreLooked xs ys → AreLooked xs (slice_set ys n y)
one_more xs ys n y below looked are = (
  length-set ys n y ∙ are.0,
  (λ k d low. ⊎_elim
      (λ same. subst (λ h. HomeLooked (get_or xs k d) h) (sym (ap (λ i. get_or (slice_set ys n y) i d) same.1 ∙ get_or-set_same ys n y d below))
      (looked_twice (get_or xs k d) (get_or ys n y) y (subst (λ h. HomeLooked (get_or xs k d) h) (ap (λ i. get_or ys i d) same.1 ∙ get_or_default ys n d y below) (are.1 k d low)) looked))
      (λ other. subst (λ h. HomeLooked (get_or xs k d) h) (sym (get_or-set_other ys n k y d other.1)) (are.1 k d low))
      (eqb_tells k n)),
)

-- one home more is full
pub full_more : (ys : List Home) (n : ℕ) (y : Home) → n < length ys → ((k : ℕ) (d : Home) → k < n → IsFull (get_or ys k d)) → IsFull y → (k : ℕ) (d : Home) → k < n + 1 → IsFull (get_or (slice_set ys n y) k d)
full_more ys n y below full here k d low =
    ⊎_elim
    (λ same. subst IsFull (sym (ap (λ i. get_or (slice_set ys n y) i d) same.1 ∙ get_or-set_same ys n y d below)) here)
    (λ other. subst IsFull (sym (get_or-set_other ys n k y d other.1)) (full k d (let ne = other.1 in omega (arith, low, ne))))
    (eqb_tells k n)

-- where all are full, one of them looked at just now, those before it were full
pub full_before : (ys : List Home) (n : ℕ) (y : Home) → n < length ys → ((k : ℕ) (d : Home) → k < n + 1 → IsFull (get_or (slice_set ys n y) k d)) → (k : ℕ) (d : Home) → k < n → IsFull (get_or ys k d)
full_before ys n y below each k d low = subst IsFull (get_or-set_other ys n k y d (λ same. let s = same in omega (arith, low, s))) (each k d (omega (arith, low)))

-- and it is full itself
pub full_here : (ys : List Home) (n : ℕ) (y : Home) → n < length ys → ((k : ℕ) (d : Home) → k < n + 1 → IsFull (get_or (slice_set ys n y) k d)) → IsFull y
full_here ys n y below each = subst IsFull (get_or-set_same ys n y y below) (each n y (omega arith))

unlooked : (h : Home) → HomeLooked h h
unlooked h = (refl, (((refl, refl, refl, refl), refl), refl, ([], append-nil _)))

-- homes that were not looked at
pub as_they_are : (ys : List Home) → AreLooked ys ys
as_they_are ys = (refl, (λ k d low. unlooked (get_or ys k d)))

-- a home that was looked at, among others that were not
pub one_looked : (ys : List Home) (n : ℕ) (y : Home) → n < length ys → HomeLooked (get_or ys n y) y → AreLooked ys (slice_set ys n y)
one_looked ys n y below looked = one_more ys ys n y below looked (as_they_are ys)

-- a home in the place of one of its process: the processes are as they were
pub same_order : (ys : List Home) (n : ℕ) (y d : Home) → y.process ≡ (get_or ys n d).process → map (λ (h : Home). h.process) (slice_set ys n y) ≡ map (λ (h : Home). h.process) ys
same_order ys n y d same = map-set_same (λ (h : Home). h.process) ys n y d same

-- homes that were looked at are those of the same processes
pub order_looked : (old new : List Home) → AreLooked old new → map (λ (h : Home). h.process) new ≡ map (λ (h : Home). h.process) old
order_looked [] [] are = refl
order_looked [] (y ∷ ys) are = absurd (let bad : suc (length ys) ≡ 0 = are.0 in omega (arith, bad))
order_looked (x ∷ xs) [] are = absurd (let bad : 0 ≡ suc (length xs) = are.0 in omega (arith, bad))
order_looked (x ∷ xs) (y ∷ ys) are =
    let long : suc (length ys) ≡ suc (length xs) = are.0 in
    let first : y.process ≡ x.process = (are.1 0 x (omega arith)).0 in
    let others = order_looked xs ys ((omega (arith, long)), (λ k d low. are.1 (suc k) d (omega (arith, low)))) in
    λ j. first j ∷ others j

-- and of the same queue
pub own_looked : (t : TableId) (n : ℕ) (old new : List Home) → AreLooked old new → All (IsHomeOf t n) old → All (IsHomeOf t n) new
own_looked t n old new are own = λ k d low.
    let below : k < length old = let long = are.0 in omega (arith, long, low) in
    subst (All (λ p. IsOf t n p)) (sym (are.1 k d below).1.1) (own k d below)
