-- One pass more.
use Rattle.std.proofs.Common.{ℕ, suc, ◌≡◌, ◌<◌, ◌+◌, List, [], ◌∷◌, ◌++◌, drop, length, get_or, refl, ap, ◌∙◌, arith, below_more}
use Rattle.std.proofs.lemmas.List.{drop_more, get_or_push, get_or_append_left, length_push}
use Rattle.ds_eval.specs.declared.value.Value.{Value}
use Rattle.ds_state.specs.Value.{WorldValue}
use Rattle.ds_crew.specs.Kept.{report_of}
use Rattle.ds_crew.specs.Passes.{PlainPass, first_pass, first_count}

heads : {X : Type 0} (x y : X) (xs ys : List X) → x ∷ xs ≡ y ∷ ys → (x ≡ y) × (xs ≡ ys)
heads x y xs ys e = (cc, cc)

-- what is taken from the front of the rest of a list
pub front : {X : Type 0} (xs rest : List X) (n : ℕ) (x : X) → n < length xs → x ∷ rest ≡ drop n xs → (x ≡ get_or xs n x) × (rest ≡ drop (n + 1) xs)
front xs rest n x below e = heads x (get_or xs n x) rest (drop (n + 1) xs) (e ∙ drop_more xs n x below)

-- the passes that were dealt, and the next one
pub each_more : (w : WorldValue) (ps : List PlainPass) (p : PlainPass) → ((i : ℕ) (d : PlainPass) → i < length ps → get_or ps i d ≡ first_pass w i) → p ≡ first_pass w (length ps) → (i : ℕ) (d : PlainPass) → i < length (ps ++ p ∷ []) → get_or (ps ++ p ∷ []) i d ≡ first_pass w i
each_more w ps p each is i d below =
    below_more (λ k. get_or (ps ++ p ∷ []) k d ≡ first_pass w k) (length ps) (λ k low. get_or_append_left ps (p ∷ []) d k low ∙ each k d low) (get_or_push ps p d (length ps) refl ∙ is) i (omega (arith, length_push ps p, below))

-- a pass of the next process, with these parts, is the process's first one
pub pass_is : (w : WorldValue) (n m a b : ℕ) (last : List Value) → m ≡ n → last ≡ report_of w.reports n → a ≡ first_count w.done n → b ≡ first_count w.settled n
    → record { process = m; last = last; dones = a; settleds = b; calls = []; trail = [] } ≡ first_pass w n
pass_is w n m a b last same is done settled = cc

-- behind the first process nothing is left
pub no_more : (count n : ℕ) → 0 ≡ first_count count (n + 1)
no_more count n = ap (first_count count) (let e : suc n ≡ n + 1 = omega arith in e)
