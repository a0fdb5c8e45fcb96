-- Lists: what stands where, and when two are the same.
use Rattle.std.specs.Prelude.{◌↔◌}
use Rattle.std.proofs.Common.{ℕ, suc, zero, ◌≡◌, ◌≢◌, ◌⊎◌, ⊎_elim, ◌++◌, ◌<◌, List, [], ◌∷◌, Bool, true, false, ◌&&◌, refl, sym, ◌∙◌, subst, arith, length, get_or, set, inl, inr, eq-eqb, ne_eqb, if◌then◌else◌}
use Rattle.std.proofs.Math.ListN.{length-set}
use Rattle.std.proofs.lemmas.List.{get_or-set_same, get_or-set_other, get_or_default}
use mathlib.Core.Logic.{dite}
use native.Mathlib.Decide.{ℕ_discrete}
use lib.Pointwise.{pointwise}
use Rattle.pm_base.specs.Structures.{In}
use Rattle.pm_explore.specs.Lists.{IsAt, slot}

both : (a b : Bool) → (a && b) ≡ true → (a ≡ true) × (b ≡ true)
both true true e = (refl, refl)
both true false e = cc
both false b e = cc

-- lists that are the same element by element are the same
pub pointwise_same : {X : Type 0} (E : X → X → Bool) → ((x y : X) → E x y ≡ true → x ≡ y) → (xs ys : List X) → pointwise E xs ys ≡ true → xs ≡ ys
pointwise_same E f [] [] e = refl
pointwise_same E f [] (y ∷ ys) e = cc
pointwise_same E f (x ∷ xs) [] e = cc
pointwise_same E f (x ∷ xs) (y ∷ ys) e = let k = both (E x y) (pointwise E xs ys) e in let a = f x y k.0 in let b = pointwise_same E f xs ys k.1 in cc

-- what is read where a list was changed, and elsewhere
pub at_changed : {X : Type 0} (xs : List X) (k : ℕ) (y x : X) → IsAt (set xs k y) k x → x ≡ y
at_changed xs k y x at = sym at.is ∙ get_or-set_same xs k y x (subst (λ n. k < n) (length-set xs k y) at.low)

pub at_other : {X : Type 0} (xs : List X) (k j : ℕ) (y x : X) → j ≢ k → IsAt (set xs k y) j x → IsAt xs j x
at_other xs k j y x ne at = record { low = subst (λ n. j < n) (length-set xs k y) at.low; is = sym (get_or-set_other xs k j y x ne) ∙ at.is }

-- a list has one thing at a place
pub at_one : {X : Type 0} (xs : List X) (k : ℕ) (x y : X) → IsAt xs k x → IsAt xs k y → x ≡ y
at_one xs k x y a b = sym a.is ∙ (get_or_default xs k x y a.low ∙ b.is)

first_or_not : (j k : ℕ) (s t : Bool) → s ≡ true → t ≡ false → (if s then 0 else suc j) ≡ (if t then 0 else suc k) → ⊥
first_or_not j k true false a b e = omega (arith, e)
first_or_not j k true true a b e = cc
first_or_not j k false t a b e = cc

later : (j k n : ℕ) (s t : Bool) → s ≡ false → t ≡ false → (if s then 0 else suc j) < suc n → (if s then 0 else suc j) ≡ (if t then 0 else suc k) → (j < n) × (j ≡ k)
later j k n false false a b low e = (omega (arith, low), omega (arith, e))
later j k n true t a b low e = cc
later j k n false true a b low e = cc

-- two numbers that have one place in a window are the same
pub slots_differ : (window : List ℕ) (a b : ℕ) → slot window a < length window → slot window a ≡ slot window b → a ≡ b
slots_differ [] a b low e = omega arith
slots_differ (m ∷ ms) a b low e = dite (ℕ_discrete a m)
    (λ am. dite (ℕ_discrete b m) (λ bm. am ∙ sym bm) (λ bn. absurd (first_or_not (slot ms a) (slot ms b) _ _ (eq-eqb a m am) (ne_eqb b m bn) e)))
    (λ an. dite (ℕ_discrete b m) (λ bm. absurd (first_or_not (slot ms b) (slot ms a) _ _ (eq-eqb b m bm) (ne_eqb a m an) (sym e)))
    (λ bn. let k = later (slot ms a) (slot ms b) (length ms) _ _ (ne_eqb a m an) (ne_eqb b m bn) low e in slots_differ ms a b k.0 k.1))

-- what stands at a place stands in the list
pub in_at : {X : Type 0} (xs : List X) (k : ℕ) (x : X) → k < length xs → x ≡ get_or xs k x → In xs x
in_at [] k x low is = absurd (omega (arith, low))
in_at (y ∷ ys) zero x low is = inl (sym is)
in_at (y ∷ ys) (suc k) x low is = inr (in_at ys k x (omega (arith, low)) is)

-- what stands in a list with one thing more
pub in_pushed : {X : Type 0} (xs : List X) (x y : X) → In (xs ++ x ∷ []) y ↔ (In xs y ⊎ (y ≡ x))
in_pushed [] x y = (λ i. ⊎_elim (λ e. inr (sym e)) (λ none. absurd none) i, λ e. ⊎_elim (λ none. absurd none) (λ is. inl (sym is)) e)
in_pushed (z ∷ zs) x y =
    let r = in_pushed zs x y in (
      λ i. ⊎_elim (λ e. inl (inl e)) (λ later. ⊎_elim (λ a. inl (inr a)) (λ b. inr b) (r.0 later)) i,
      λ e. ⊎_elim (λ i. ⊎_elim (λ here. inl here) (λ later. inr (r.1 (inl later))) i) (λ is. inr (r.1 (inr is))) e,
    )
