-- What is read is shorter.
use Rattle.std.proofs.Common.{◌≡◌, ℕ, ◌+◌, ◌-◌, ◌*◌, ◌<◌, ◌≤◌, true, false, cond, List, [], ◌∷◌, length, get_or, sym, subst, arith}
use Rattle.std.specs.Char.{is_ascii_digit}
use Rattle.ds_formula.specs.Bytes.{number_from}

-- reading further digits leaves no longer text
pub from_shorter : (n : ℕ) (text : List ℕ) → length (number_from n text).1 ≤ length text
from_shorter n [] = omega arith
from_shorter n (b ∷ bs) =
    let more = from_shorter (10 * n + (b - 48)) bs in
    elim (is_ascii_digit b) as (λ t. length (cond t (number_from (10 * n + (b - 48)) bs) (n, b ∷ bs)).1 ≤ length (b ∷ bs)) [
      | true ↦ omega (arith, more)
      | false ↦ omega arith
    ]

-- a number at the front, with at least one digit, leaves a shorter text
pub digits_shorter : (text : List ℕ) (d : ℕ) → 0 < length text → is_ascii_digit (get_or text 0 d) ≡ true → length (number_from 0 text).1 < length text
digits_shorter [] d h e = absurd (omega (arith, h))
digits_shorter (b ∷ bs) d h e =
    let more = from_shorter (10 * 0 + (b - 48)) bs in
    subst (λ t. length (cond t (number_from (10 * 0 + (b - 48)) bs) (0, b ∷ bs)).1 < length (b ∷ bs)) (sym e) (omega (arith, more))
