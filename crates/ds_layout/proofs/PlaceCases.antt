-- Two places are the same or not.
use Rattle.std.proofs.Common.{ℕ, ◌≡◌, ◌≢◌, ◌⊎◌, ◌==◌, refl, ap, sym, ◌∙◌, inl, inr}
use Rattle.std.specs.Prelude.{if◌then◌else◌}
use Rattle.std.proofs.lemmas.Bool.{cases_eq}
use Rattle.ds_layout.specs.declared.place.Edition.TheVariants.{First, Second}
use Rattle.ds_layout.specs.declared.place.Place.{Place}
use Rattle.ds_layout.specs.Places.{edition_of, edition_word}
use Rattle.ds_layout.specs.declared.place.Place.TheVariants.{Version, Head, Mark, Value, Kind, Index, Announce, Header, Text, Done}

-- a place by its kind and three numbers, 0 where it has fewer
record Code : Type 0 where
  kind : ℕ
  first : ℕ
  second : ℕ
  third : ℕ
  fourth : ℕ

code_with : ℕ → ℕ → ℕ → ℕ → ℕ → Code
code_with kind first second third fourth = record { kind = kind; first = first; second = second; third = third; fourth = fourth }

code_of : Place → Code
code_of Version = code_with 0 0 0 0 0
code_of (Head cell) = code_with 1 cell 0 0 0
code_of (Mark cell) = code_with 2 cell 0 0 0
code_of (Value cell) = code_with 3 cell 0 0 0
code_of (Kind cell) = code_with 4 cell 0 0 0
code_of (Index row part) = code_with 5 row part 0 0
code_of (Announce process) = code_with 6 process 0 0 0
code_of (Header process number) = code_with 7 process number 0 0
code_of (Text edition process number part) = code_with 8 process number part (edition_word edition)
code_of (Done process part) = code_with 9 process part 0 0

place_with : ℕ → ℕ → ℕ → ℕ → ℕ → Place
place_with kind a b c d =
    if kind == 0 then Version
    else (if kind == 1 then Head a
    else (if kind == 2 then Mark a
    else (if kind == 3 then Value a
    else (if kind == 4 then Kind a
    else (if kind == 5 then Index a b
    else (if kind == 6 then Announce a
    else (if kind == 7 then Header a b
    else (if kind == 8 then Text (edition_of d) a b c
    else Done a b))))))))

place_back : Code → Place
place_back c = place_with c.kind c.first c.second c.third c.fourth

place_back-code_of : (r : Place) → place_back (code_of r) ≡ r
unfolding place_back place_with code_of code_with
place_back-code_of Version = refl
place_back-code_of (Head cell) = refl
place_back-code_of (Mark cell) = refl
place_back-code_of (Value cell) = refl
place_back-code_of (Kind cell) = refl
place_back-code_of (Index row part) = refl
place_back-code_of (Announce process) = refl
place_back-code_of (Header process number) = refl
place_back-code_of (Text First process number part) = refl
place_back-code_of (Text Second process number part) = refl
place_back-code_of (Done process part) = refl

code_cases : (x y : Code) → (x ≡ y) ⊎ (x ≢ y)
unfolding code_with
code_cases x y = elim (cases_eq x.kind y.kind) [
  | inr ne ↦ inr (λ e. ne (ap (λ (c : Code). c.kind) e))
  | inl k ↦ elim (cases_eq x.first y.first) [
    | inr ne ↦ inr (λ e. ne (ap (λ (c : Code). c.first) e))
    | inl a ↦ elim (cases_eq x.second y.second) [
      | inr ne ↦ inr (λ e. ne (ap (λ (c : Code). c.second) e))
      | inl b ↦ elim (cases_eq x.third y.third) [
        | inr ne ↦ inr (λ e. ne (ap (λ (c : Code). c.third) e))
        | inl d ↦ elim (cases_eq x.fourth y.fourth) [
          | inr ne ↦ inr (λ e. ne (ap (λ (c : Code). c.fourth) e))
          | inl f ↦ inl (ap (λ n. code_with n x.first x.second x.third x.fourth) k ∙ ap (λ n. code_with y.kind n x.second x.third x.fourth) a ∙ ap (λ n. code_with y.kind y.first n x.third x.fourth) b
              ∙ ap (λ n. code_with y.kind y.first y.second n x.fourth) d ∙ ap (λ n. code_with y.kind y.first y.second y.third n) f)
        ]
      ]
    ]
  ]
]

-- two places are the same or not
pub place_cases : (r place : Place) → (r ≡ place) ⊎ (r ≢ place)
place_cases r place = elim (code_cases (code_of r) (code_of place)) [
  | inl e ↦ inl (sym (place_back-code_of r) ∙ ap place_back e ∙ place_back-code_of place)
  | inr ne ↦ inr (λ e. ne (ap code_of e))
]
