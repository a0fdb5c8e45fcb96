-- The counts of a journal that grows.
use Rattle.std.proofs.Common.{ℕ, zero, suc, ◌≡◌, ◌+◌, ◌++◌, ◌∷◌, ◌<◌, ◌==◌, [], List, length, get_or, refl, sym, ap, ◌∙◌, ⊎_elim, arith}
use Rattle.std.specs.Prelude.{slice_set}
use Rattle.std.proofs.lemmas.List.{get_or-set_same, get_or-set_other}
use Rattle.std.proofs.lemmas.Bool.Decides.{eqb_tells}
use Rattle.ds_store_journal.specs.Journals.{AreCounts, KeptEdit, edits_by, one_if}

-- one zero more
pub zeros_more : (xs : List ℕ) → ((k : ℕ) → get_or xs k 0 ≡ 0) → (k : ℕ) → get_or (xs ++ 0 ∷ []) k 0 ≡ 0
zeros_more [] h zero = refl
zeros_more [] h (suc k) = refl
zeros_more (x ∷ xs) h zero = h 0
zeros_more (x ∷ xs) h (suc k) = zeros_more xs (λ j. h (suc j)) k

-- one edit more
edits_more : (p : ℕ) (edits : List KeptEdit) (edit : KeptEdit) → edits_by p (edits ++ edit ∷ []) ≡ edits_by p edits + one_if (edit.process == p)
unfolding edits_by
edits_more p [] edit = let n = one_if (edit.process == p) in let is : n + 0 ≡ 0 + n = omega arith in is
edits_more p (e ∷ edits) edit =
    let rest = edits_more p edits edit in
    let n = one_if (e.process == p) in
    let m = one_if (edit.process == p) in
    let long : n + edits_by p (edits ++ edit ∷ []) ≡ (n + edits_by p edits) + m = omega (arith, rest) in
    long

-- the counts after one edit more of the process
pub counted : (xs : List ℕ) (process number more : ℕ) (edits : List KeptEdit) (edit : KeptEdit) → process < length xs → number ≡ get_or xs process 0 → more ≡ number + 1
    → AreCounts xs edits → edit.process ≡ process → AreCounts (slice_set xs process more) (edits ++ edit ∷ [])
counted xs process number more edits edit low is next are same p =
    ⊎_elim
    (λ here.
    let at : p ≡ process = sym here.1 ∙ same in
    let one : one_if (edit.process == p) ≡ 1 = ap one_if here.0 in
    let now : get_or (slice_set xs process more) p 0 ≡ more = ap (λ k. get_or (slice_set xs process more) k 0) at ∙ get_or-set_same xs process more 0 low in
    let was : get_or xs p 0 ≡ number = ap (λ k. get_or xs k 0) at ∙ sym is in
    let all = are p in
    let grown = edits_more p edits edit in
    omega (arith, now, was, next, all, grown, one))
    (λ other.
    let none : one_if (edit.process == p) ≡ 0 = ap one_if other.0 in
    let apart : p ≡ process → ⊥ = λ e. other.1 (same ∙ sym e) in
    let now : get_or (slice_set xs process more) p 0 ≡ get_or xs p 0 = get_or-set_other xs process p more 0 apart in
    let all = are p in
    let grown = edits_more p edits edit in
    omega (arith, now, all, grown, none))
    (eqb_tells edit.process p)
