-- Records as JSON.
use Rattle.std.proofs.Common.{◌≡◌, ◌+◌, ◌<◌, ◌∙◌, ℕ, zero, suc, List, [], ◌∷◌, ◌++◌, map, take, length, false, refl, ap, sym, arith}
use Rattle.std.proofs.lemmas.List.{map-append}
use Rattle.std.specs.Prelude.{slice_index_or}
use Rattle.serde_json.specs.Data.{Data, string}
use Rattle.serde_json.specs.View.{items_of}
use Rattle.serde_json.specs.Written.{has_float, items_have_float}
use Rattle.ds_batch.specs.Tables.{record_data, table_data}

take_one : (fields : List (List ℕ)) (i : ℕ) → i < length fields → take (suc i) fields ≡ take i fields ++ (slice_index_or fields i [] ∷ [])
take_one [] i below = absurd (omega arith)
take_one (f ∷ fields) zero below = refl
take_one (f ∷ fields) (suc i) below = ap (λ (fs : List (List ℕ)). f ∷ fs) (take_one fields i (omega arith))

-- one field more
pub texts_more : (fields : List (List ℕ)) (i : ℕ) (old new : List Data) (datum : Data) → i < length fields
    → new ≡ old ++ datum ∷ [] → datum ≡ string (slice_index_or fields i []) → old ≡ map string (take i fields) → new ≡ map string (take (i + 1) fields)
texts_more fields i old new datum below is at so_far =
    let one : i + 1 ≡ suc i = omega arith in
    is
    ∙ ap (λ (d : Data). old ++ (d ∷ [])) at
    ∙ ap (λ (ds : List Data). ds ++ (string (slice_index_or fields i []) ∷ [])) so_far
    ∙ sym (map-append string (take i fields) (slice_index_or fields i [] ∷ []))
    ∙ sym (ap (λ (fs : List (List ℕ)). map string fs) (take_one fields i below))
    ∙ sym (ap (λ n. map string (take n fields)) one)

record_no_float : (fields : List (List ℕ)) → items_have_float (items_of (map string fields)) ≡ false
record_no_float [] = refl
record_no_float (f ∷ fields) = record_no_float fields

rows_no_float : (rows : List (List (List ℕ))) → items_have_float (items_of (map record_data rows)) ≡ false
rows_no_float [] = refl
rows_no_float (r ∷ rs) = rw (record_no_float r) (rows_no_float rs)

-- no table has a float
pub table_no_float : (rows : List (List (List ℕ))) → has_float (table_data rows) ≡ false
table_no_float rows = rw (rows_no_float rows) refl
