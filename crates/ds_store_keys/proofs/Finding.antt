-- Maps whose keys are bytes.
use Rattle.std.proofs.Common.{◌≡◌, ◌∙◌, sym, ap, List, ℕ, Bool, true, false, Option, Vec, Global, HashMap, bytes_eq, if◌then◌else◌, ⊎_elim}
use Rattle.std.proofs.lemmas.Bool.{cases_Bool}
use Rattle.std.proofs.lemmas.Slice.Eq.{bytes_eq-Decides}
use Rattle.std.specs.Cmp.Lexicographic.{nat_list_eq_equiv}
use Rattle.std.specs.HashMap.{UpdatesBy, get_by}
use Rattle.std.specs.Map.{AreApart, IsKeyTest, KeepsOthers, lookup}

-- how two keys are compared
abbrev pub key_eq : Vec ℕ Global → Vec ℕ Global → Bool
key_eq x y = bytes_eq x.items y.items

-- the key with these bytes
abbrev pub is_at : List ℕ → Vec ℕ Global → Bool
is_at key k = bytes_eq key k.items

others : {X : Type 0} (test : Vec ℕ Global → Bool) (old new : List (Vec ℕ Global × X)) → KeepsOthers key_eq test old new
    → (q : Vec ℕ Global → Bool) → IsKeyTest key_eq q → AreApart test q → lookup q new ≡ lookup q old
unfolding KeepsOthers
others test old new keeps = keeps

apart_from : (key q k : List ℕ) → bytes_eq q key ≡ false → bytes_eq key k ≡ true → bytes_eq q k ≡ false
apart_from key q k apart same = ap (bytes_eq q) (sym ((bytes_eq-Decides key k).0 same)) ∙ apart

-- what a map has at some bytes after a change at these
pub updated : {X S : Type 0} (m n : HashMap (Vec ℕ Global) X S) (key : List ℕ) (w : Option X) → UpdatesBy key_eq (is_at key) m n w
    → (q : List ℕ) → get_by (is_at q) n ≡ (if bytes_eq q key then w else get_by (is_at q) m)
updated m n key w updates q =
    ⊎_elim
    (λ same.
    ap (λ l. get_by (is_at l) n) ((bytes_eq-Decides q key).0 same) ∙ (updates.1 ∙ sym (ap (λ b. if b then w else get_by (is_at q) m) same)))
    (λ apart.
    others (is_at key) m.entries n.entries updates.3 (is_at q) (λ x y. nat_list_eq_equiv.congr q x.items y.items) (λ k. apart_from key q k.items apart)
    ∙ sym (ap (λ b. if b then w else get_by (is_at q) m) apart))
    (cases_Bool (bytes_eq q key))
