-- The ascending order is one, and how numbers are found to stand in a list.
use Rattle.std.proofs.Common.{◌≡◌, ◌<◌, ◌+◌, ◌≤◌, ◌∙◌, ℕ, suc, zero, List, [], ◌∷◌, ◌++◌, ⊎_elim, Contains, get_or, length, ap, sym, subst, arith}
use Rattle.std.specs.List.{range_with_len}
use Rattle.std.proofs.lemmas.List.FromFn.{length-range_with_len, get_or-range_with_len}
use Rattle.std.proofs.lemmas.List.Elements.{Contains-get_or}
use Rattle.std.proofs.lemmas.Bool.{cases_lt}
use Rattle.ds_order.specs.Orders.{IsOrder}

pub ascends : (n : ℕ) → IsOrder n (range_with_len 0 n)
ascends n =
    let size = length-range_with_len 0 n in
    record {
      count = size;
      below = λ k d few. let small : k < n = subst (λ m. k < m) size few in let same : 0 + k ≡ k = omega arith in subst (λ c. c < n) (sym (get_or-range_with_len 0 n k d small ∙ same)) small;
      each = λ c few. let same : 0 + c ≡ c = omega arith in (c, subst (λ m. c < m) (sym size) few, get_or-range_with_len 0 n c c few ∙ same);
    }

grows : (a n : ℕ) → range_with_len a (suc n) ≡ range_with_len a n ++ (a + n) ∷ []
grows a zero = let same : a ≡ a + 0 = omega arith in ap (λ (z : ℕ). z ∷ []) same
grows a (suc n) =
    let same : a + 1 + n ≡ a + suc n = omega arith in
    ap (λ (z : List ℕ). a ∷ z) (grows (a + 1) n ∙ ap (λ (z : ℕ). range_with_len (a + 1) n ++ z ∷ []) same)

-- the ascending order of one cell more
pub grown : (n : ℕ) → range_with_len 0 n ++ n ∷ [] ≡ range_with_len 0 (n + 1)
grown n =
    let from : 0 + n ≡ n = omega arith in
    let to : suc n ≡ n + 1 = omega arith in
    ap (λ (z : ℕ). range_with_len 0 n ++ z ∷ []) (sym from) ∙ (sym (grows 0 n) ∙ ap (λ (z : ℕ). range_with_len 0 z) to)

-- one cell more stands in the list
pub one_more : (xs : List ℕ) (n p : ℕ) → p < length xs → get_or xs p 0 ≡ n → ((c : ℕ) → c < n → Contains xs c) → (c : ℕ) → c < n + 1 → Contains xs c
one_more xs n p few is before c small =
    ⊎_elim
    (λ (less : c < n). before c less)
    (λ (least : n ≤ c). let same : n ≡ c = omega (arith, least, small) in subst (λ z. Contains xs z) (is ∙ same) (Contains-get_or xs p 0 few))
    (cases_lt c n)
