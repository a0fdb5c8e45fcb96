-- A call on what a handle held, put back: what an export has done.
use Rattle.std.proofs.Common.{ℕ, ◌≡◌, subst}
use Rattle.std.specs.Prelude.{Result}
use Rattle.c_handles.specs.Handles.{Frees, Handles, Holds, IsEmpty, OnHandle, called, freed}

module _ {H V F R : Type 0} {L : Handles H V F} {Call : V → Result R F → V → Type 0} {T : Result R F → ℕ → Type 0} {old new : H} {number : ℕ} {v u : V} where
  -- the value `u` that the call was made on is the one that the handle held
  pub carried : {w : V} (told : Result R F) → Holds L.sight old v → u ≡ v → Call u told w → Holds L.sight new w → T told number → OnHandle L Call T old new number
  carried {w} told held same does holds tells = called (record {
    value = v;
    next = w;
    told = told;
    held = held;
    holds = holds;
    does = subst (λ z. Call z told w) same does;
    tells = tells;
  })

  -- the same of a call that reads alone: the handle holds what it held
  pub looked : (told : Result R F) → Holds L.sight old v → u ≡ v → Call u told u → Holds L.sight new v → T told number → OnHandle L Call T old new number
  looked told held same does holds tells = called (record {
    value = v;
    next = v;
    told = told;
    held = held;
    holds = holds;
    does = subst (λ z. Call z told z) same does;
    tells = tells;
  })

-- a value of this kind was freed
pub let_go : {H V F P : Type 0} {L : Handles H V F} {kind : P → V} {old new : H} {number : ℕ} {v : V} (p : P) → Holds L.sight old v → v ≡ kind p → IsEmpty L.sight new → number ≡ 0 → Frees L kind old new number
let_go {L = L} {old = old} p held is empty zero = freed p (subst (λ w. Holds L.sight old w) is held) empty zero
