-- A function with another value at one place.
use Rattle.std.proofs.Common.{ℕ, ◌≡◌, ◌≢◌, sym, ap, ◌∙◌, eq-eqb, ne_eqb}
use mathlib.Core.Logic.{dite}
use native.Mathlib.Decide.{ℕ_discrete}
use Rattle.pm_base.specs.Structures.{put}

pub put_here : {X : Type 0} (f : ℕ → X) (p : ℕ) (x : X) (q : ℕ) → q ≡ p → put f p x q ≡ x
put_here f p x q e = rw (eq-eqb q p e)

pub put_else : {X : Type 0} (f : ℕ → X) (p : ℕ) (x : X) (q : ℕ) → q ≢ p → put f p x q ≡ f q
put_else f p x q n = rw (ne_eqb q p n)

pub put_same : {X : Type 0} (f : ℕ → X) (p : ℕ) (x : X) → f p ≡ x → (q : ℕ) → put f p x q ≡ f q
put_same f p x e q = dite (ℕ_discrete q p) (λ h. put_here f p x q h ∙ (sym e ∙ ap f (sym h))) (λ n. put_else f p x q n)
