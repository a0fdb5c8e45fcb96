-- What a world counts, from one list of situations to another.
use Rattle.std.proofs.Common.{ℕ, ◌≡◌, ◌≢◌, ◌+◌, ◌<◌, List, [], ◌∷◌, length, get_or, refl, sym, ap, ◌∙◌, subst, zero, suc, arith}
use Rattle.std.specs.Prelude.{Contains, Option}
use Rattle.ds_state.specs.World.{PlainEdit, PlainIssue}
use Rattle.ds_state.specs.Dones.{HasAnswered}
use Rattle.ds_state.specs.Underway.{reports_in, shows_under_way}
use Rattle.ds_state.specs.declared.situation.Situation.{Situation}
use Rattle.ds_state.proofs.Dones.{still_answered}

-- the same situations
pub same_under : (xs ys : List Situation) (d : Situation) → length xs ≡ length ys → ((q : ℕ) → q < length xs → get_or ys q d ≡ get_or xs q d) → shows_under_way ys ≡ shows_under_way xs
same_under [] [] d long same = refl
same_under [] (y ∷ ys) d long same = absurd (omega arith)
same_under (x ∷ xs) [] d long same = absurd (omega arith)
same_under (x ∷ xs) (y ∷ ys) d long same =
    let h = same_under xs ys d (omega arith) (λ q low. same (suc q) (omega arith)) in
    let first : reports_in y ≡ reports_in x = ap reports_in (same 0 (omega arith)) in
    omega (arith, h, first)

-- one process goes on
pub moved : (xs ys : List Situation) (d : Situation) (p : ℕ) → length xs ≡ length ys → p < length xs → ((q : ℕ) → q ≢ p → get_or ys q d ≡ get_or xs q d)
    → shows_under_way ys + reports_in (get_or xs p d) ≡ shows_under_way xs + reports_in (get_or ys p d)
moved [] ys d p long low same = absurd (omega arith)
moved (x ∷ xs) [] d p long low same = absurd (omega arith)
moved (x ∷ xs) (y ∷ ys) d zero long low same =
    let h : shows_under_way ys ≡ shows_under_way xs = same_under xs ys d (omega arith) (λ q lt. same (suc q) (λ e. omega arith)) in omega (arith, h)
moved (x ∷ xs) (y ∷ ys) d (suc p) long low same =
    let h = moved xs ys d p (omega arith) (omega arith) (λ q ne. same (suc q) (λ e. ne (omega arith))) in
    let first : reports_in y ≡ reports_in x = ap reports_in (same 0 (λ e. omega arith)) in
    omega (arith, h, first)

-- the same edits are linearized, and the same are open
pub answered_same : (cs ds : List PlainEdit) (p q : ℕ → Option PlainIssue) (done : ℕ) → ds ≡ cs → ((n : ℕ) → q n ≡ p n) → HasAnswered cs p done → HasAnswered ds q done
answered_same cs ds p q done counted opens h = still_answered cs ds p q done (λ e there. subst (λ (l : List PlainEdit). Contains l e) (sym counted) there) (λ e issue there now is. sym (opens e.process) ∙ now) h
