-- What a crash may leave of a database.
use Rattle.std.proofs.Common.{inl, refl, arith}
use Rattle.sqlite.specs.State.{State, Survives}

-- while nothing happens, what it could before
pub stays : (s : State) → Survives s s (λ _. ⊥)
stays s = record { clean = omega arith; shield = λ h. h; counts = omega arith; limit = refl; closes = λ _ h. inl h; crash = λ _ db h. inl h }
