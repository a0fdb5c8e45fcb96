-- The remainder by size and sign is `a - b * floor(a / b)`.
use Rattle.std.proofs.Common.{◌≡◌, ◌≢◌, ◌⊎◌, ℕ, zero, suc, ◌+◌, ◌-◌, ◌*◌, ◌/◌, ◌%◌, ◌<◌, ℤ, pos, negsuc, ◌-ℤ◌, ◌*ℤ◌, false, refl, ap, ◌∙◌, inl, inr, arith}
use Rattle.std.proofs.lemmas.Int.{ints}
use Rattle.std.proofs.lemmas.Bool.{cases_lt}
use Rattle.std.proofs.lemmas.Bool.Decides.{nat_tests}
use Rattle.std.proofs.lemmas.Nat.{mod-mul-add}
use Rattle.ds_eval.specs.Numbers.{floor_div}
use Rattle.ds_eval.specs.CodeSteps.{floor_mod, size_of_rest}

-- what lacks up to the next multiple, by what is left
next_rest : (n d : ℕ) → 0 < d → ((suc (n % d) < d) × (suc n % d ≡ suc (n % d))) ⊎ ((suc (n % d) ≡ d) × (suc n % d ≡ 0))
next_rest n d h = elim (cases_lt (suc (n % d)) d) [
  | inl l ↦ inl (l, ap (λ (x : ℕ). x % d) (let e : suc n ≡ (n / d) * d + suc (n % d) = omega arith in e) ∙ mod-mul-add (n / d) d (suc (n % d)) l)
  | inr g ↦ inr (omega arith, ap (λ (x : ℕ). x % d) (let e : suc n ≡ suc (n / d) * d + 0 = omega arith in e) ∙ mod-mul-add (suc (n / d)) d 0 h)
]

part : (r d s t : ℕ) → 0 < r → r < d → (d - r) + s ≡ t → size_of_rest false r d + s ≡ t
part r d s t l h e = grind (arith, nat_tests)

lacking : (n d : ℕ) → 0 < d → size_of_rest false (suc n % d) d + suc n ≡ d * suc (n / d)
lacking n d h = elim (next_rest n d h) [
  | inl p ↦ part (suc n % d) d (suc n) (d * suc (n / d)) (omega (arith, p.1)) (omega arith) (omega (arith, p.1))
  | inr p ↦ rw p.1 (omega arith)
]

-- the remainder by size and sign is what floor division leaves
pub floor_mod_is : (a b : ℤ) → b ≢ pos 0 → floor_mod a b ≡ a -ℤ b *ℤ floor_div a b
floor_mod_is (pos n) (pos zero) h = absurd (h refl)
floor_mod_is (pos n) (pos (suc d)) h = omega (arith, ints)
floor_mod_is (negsuc n) (pos zero) h = absurd (h refl)
floor_mod_is (negsuc n) (pos (suc d)) h = let k = lacking n (suc d) (omega arith) in omega (arith, ints)
floor_mod_is (pos zero) (negsuc d) h = let e : 0 % suc d ≡ 0 = omega arith in rw e (omega (arith, ints))
floor_mod_is (pos (suc n)) (negsuc d) h = let k = lacking n (suc d) (omega arith) in omega (arith, ints)
floor_mod_is (negsuc n) (negsuc d) h = omega (arith, ints)
