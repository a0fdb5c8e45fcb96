-- The first of some things that a word names.
use Rattle.std.proofs.Common.{◌≡◌, ◌<◌, ◌≤◌, ℕ, zero, suc, List, [], ◌∷◌, length, Some, None, true, false, drop, slice_index_or, refl, arith}
use Rattle.std.specs.Str.{bytes_eq}
use Rattle.ds_script.specs.Named.{named_in}

-- the one at this place is found, where the word is its name
pub found : {X : Type 0} (name : X → List ℕ) (xs : List X) (k : ℕ) (d : X) (word : List ℕ) → k < length xs → bytes_eq word (name (slice_index_or xs k d)) ≡ true
    → named_in name (drop k xs) word ≡ Some (slice_index_or xs k d)
found name [] k d word low is = absurd (omega (arith, low))
found name (x ∷ xs) zero d word low is = rw is refl
found name (x ∷ xs) (suc k) d word low is = found name xs k d word (omega (arith, low)) is

-- it is passed over, where the word is another one
pub passed : {X : Type 0} (name : X → List ℕ) (xs : List X) (k : ℕ) (d : X) (word : List ℕ) → k < length xs → bytes_eq word (name (slice_index_or xs k d)) ≡ false
    → named_in name (drop k xs) word ≡ named_in name (drop (suc k) xs) word
passed name [] k d word low is = absurd (omega (arith, low))
passed name (x ∷ xs) zero d word low is = rw is refl
passed name (x ∷ xs) (suc k) d word low is = passed name xs k d word (omega (arith, low)) is

-- after the last one there is none
pub none : {X : Type 0} (name : X → List ℕ) (xs : List X) (k : ℕ) (word : List ℕ) → length xs ≤ k → named_in name (drop k xs) word ≡ None
none name [] zero word high = refl
none name [] (suc k) word high = refl
none name (x ∷ xs) zero word high = absurd (omega (arith, high))
none name (x ∷ xs) (suc k) word high = none name xs k word (omega (arith, high))
