-- A fault of a text is not out of memory.
use Rattle.std.proofs.Common.{ℕ, ℤ, ◌≡◌, ◌-◌, ◌^◌, List, [], ◌∷◌, Bool, true, false, Result, Ok, Err, refl, ap, sym, ◌∙◌}
use Rattle.std.specs.Prelude.{pos, neg_ℤ, drop, if◌then◌else◌}
use Rattle.ds_formula.specs.declared.fault.FaultKind.TheVariants.{NoMemory, NotWhole, NumberTooLarge}
use Rattle.ds_formula.specs.declared.fault.TextFault.{TextFault}
use Rattle.ds_formula.specs.declared.tokens.Stop.{Stop}
use Rattle.ds_formula.specs.Functions.{Scope}
use Rattle.ds_formula.specs.Bytes.{◌>>=◌, stop_at, unexpected_stop, begins, number_at}
use Rattle.ds_formula.specs.Grammar.{alone, whole_of, constant_of, placed, FaultsIn, FaultsLongIn, too_long, within, in_constant, in_formula, range, too_deep, TakesMemory}

-- where it is a fault, that is not out of memory
abbrev Told : {A : Type 0} → Result A Stop → Type 0
Told r = (stop : Stop) → r ≡ Err stop → stop.kind ≡ NoMemory → ⊥

told_ok : {A : Type 0} (x : A) → Told (Ok x)
told_ok x stop is none = cc

told_err : {A : Type 0} (s : Stop) → (s.kind ≡ NoMemory → ⊥) → Told {A = A} (Err s)
told_err s fine stop is none = fine (let same : s ≡ stop = cc in ap (λ (x : Stop). x.kind) same ∙ none)

told_if : {A : Type 0} (b : Bool) (x y : Result A Stop) → Told x → Told y → Told (if b then x else y)
told_if true x y f g = f
told_if false x y f g = g

told_then : {A B : Type 0} (r : Result A Stop) (f : A → Result B Stop) → Told r → ((x : A) → Told (f x)) → Told (r >>= f)
told_then (Ok x) f r g stop is none = g x stop is none
told_then (Err e) f r g stop is none = r e refl (let same : e ≡ stop = cc in ap (λ (x : Stop). x.kind) same ∙ none)

told_unexpected : {A : Type 0} (text : List ℕ) → Told {A = A} (Err (unexpected_stop text))
told_unexpected [] = told_err _ (λ none. cc)
told_unexpected (b ∷ bs) = told_err _ (λ none. cc)

told_number : (limit : ℕ) (text : List ℕ) → Told (number_at limit text)
unfolding number_at
told_number limit [] = told_unexpected []
told_number limit (b ∷ bs) = told_if _ _ _ (told_if _ _ _ (told_err _ (λ none. cc)) (told_if _ _ _ (told_ok _) (told_err _ (λ none. cc)))) (told_unexpected (b ∷ bs))

told_alone : (n : ℕ) (text : List ℕ) → Told (alone n text)
told_alone n [] = told_ok n
told_alone n (b ∷ bs) = told_unexpected (b ∷ bs)

told_whole : (limit : ℕ) (text : List ℕ) → Told (whole_of limit text)
unfolding whole_of
told_whole limit text = told_then (number_at limit text) _ (told_number limit text) (λ x. told_alone x.0 x.1)

told_constant : (text : List ℕ) → Told (constant_of text)
unfolding constant_of
told_constant text =
    told_if (begins 45 text) _ _ (told_then (whole_of (2 ^ 63) (drop 1 text)) (λ n. Ok (neg_ℤ (pos n))) (told_whole (2 ^ 63) (drop 1 text)) (λ n. told_ok (neg_ℤ (pos n))))
    (told_if (begins 43 text) _ _ (told_then (whole_of (2 ^ 63 - 1) (drop 1 text)) (λ n. Ok (pos n)) (told_whole (2 ^ 63 - 1) (drop 1 text)) (λ n. told_ok (pos n)))
    (told_then (whole_of (2 ^ 63 - 1) text) (λ n. Ok (pos n)) (told_whole (2 ^ 63 - 1) text) (λ n. told_ok (pos n))))

-- a fault that is named as out of memory is one of a formula
pub of_formulas : (scope : Scope) (text : List ℕ) (fault : TextFault) → FaultsIn scope text fault → fault.kind ≡ NoMemory → TakesMemory text
of_formulas scope text fault (too_long long) none = absurd (cc)
of_formulas scope text fault (within f short (in_constant t stop some plain is)) none = absurd (told_constant text stop is none)
of_formulas scope text fault (within f short (in_formula t body stop is faulty)) none = record { short = short; body = body; formula = is }
of_formulas scope text fault (within f short (range t body g r left is reads misplaced)) none = record { short = short; body = body; formula = is }
of_formulas scope text fault (within f short (too_deep t body g r is reads placed big)) none = record { short = short; body = body; formula = is }
