-- Whether a word is the token.
use Rattle.std.proofs.Common.{◌≡◌, ◌≤◌, ◌∙◌, ℕ, Bool, true, false, List, length, take, refl, sym, ap, arith}
use Rattle.std.proofs.lemmas.List.{take_all}
use Rattle.std.proofs.lemmas.Slice.Eq.{bytes_eq-Decides}
use Rattle.std.specs.Prelude.{Decides}
use Rattle.std.specs.Str.{bytes_eq}

-- two answers to one question are the same
one_answer : {P : Type 0} (r s : Bool) → Decides r P → Decides s P → r ≡ s
one_answer true s h k = sym (k.1 (h.0 refl))
one_answer false true h k = h.1 (k.0 refl)
one_answer false false h k = refl

-- what all bytes of two words say is what the words say
pub whole : (word token : List ℕ) (n : ℕ) (same : Bool) → length word ≡ n → length token ≡ n → Decides same (take n word ≡ take n token) → same ≡ bytes_eq word token
whole word token n same long also decides =
    let all : take n word ≡ word = take_all n word (omega (arith, long)) in
    let rest : take n token ≡ token = take_all n token (omega (arith, also)) in
    one_answer same (bytes_eq word token) (λ yes. sym all ∙ decides.0 yes ∙ rest, λ is. decides.1 (ap (take n) is)) (bytes_eq-Decides word token)
