-- What a call does to what a handle holds, and what its caller in C gets.
use Rattle.std.specs.Prelude.{ℕ, ◌≡◌, Result, Ok, Err}

-- a call leads from the one value to the other so, and is answered this; or it fails for a cause that holds, and the value
-- stays
abbrev pub Does : {V R F : Type 0} → (V → R → V → Type 0) → (V → F → Type 0) → V → Result R F → V → Type 0
Does P Fails old (Ok answered) new = P old answered new
Does P Fails old (Err why) new = Fails old why × (new ≡ old)

-- a result as a number alone: 0, or that of the failure
abbrev pub Numbers : {R F : Type 0} → (F → ℕ) → Result R F → ℕ → Type 0
Numbers number_of (Ok answered) number = number ≡ 0
Numbers number_of (Err why) number = number ≡ number_of why

-- a result as a number, and as a row of the caller's, which stays where the call failed
abbrev pub Tells : {R F : Type 0} → (F → ℕ) → R → R → Result R F → ℕ → Type 0
Tells number_of before after (Ok row) number = (after ≡ row) × (number ≡ 0)
Tells number_of before after (Err why) number = (after ≡ before) × (number ≡ number_of why)
