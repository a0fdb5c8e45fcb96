-- What stands in a list.
use Rattle.std.proofs.Common.{◌⊎◌, List, [], ◌∷◌, ◌++◌, inl, inr, ⊎_elim}
use Rattle.pm_base.specs.Structures.{In}

-- what is in two lists together is in the first or in the second
pub in_append : {X : Type 0} (xs ys : List X) (x : X) → In (xs ++ ys) x → In xs x ⊎ In ys x
in_append [] ys x t = inr t
in_append (z ∷ zs) ys x t = ⊎_elim (λ e. inl (inl e)) (λ h. ⊎_elim (λ a. inl (inr a)) (λ b. inr b) (in_append zs ys x h)) t

-- what is in a list is in it with others after it
pub in_left : {X : Type 0} (xs ys : List X) (x : X) → In xs x → In (xs ++ ys) x
in_left [] ys x t = absurd t
in_left (z ∷ zs) ys x t = ⊎_elim (λ e. inl e) (λ h. inr (in_left zs ys x h)) t

-- what is in a list is in it with others in front
pub in_right : {X : Type 0} (xs ys : List X) (x : X) → In ys x → In (xs ++ ys) x
in_right [] ys x t = t
in_right (z ∷ zs) ys x t = inr (in_right zs ys x t)
