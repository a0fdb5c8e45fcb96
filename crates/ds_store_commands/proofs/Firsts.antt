-- The first lines of a journal, line by line.
use Rattle.std.proofs.Common.{String, Global, ◌≡◌, ◌+◌, ◌-◌, ◌<◌, ◌∙◌, ℕ, suc, Bool, true, false, List, [], ◌∷◌, ◌++◌, ap, get_or, length, map, take, if◌then◌else◌, sym, arith}
use Rattle.std.proofs.Math.Seq.{take-suc}
use Rattle.std.proofs.lemmas.List.{map-append}
use Rattle.std.specs.String.{string_bytes}
use Rattle.ds_script_io.specs.Fields.{is_skipped}
use Rattle.ds_store_commands.specs.Logs.{edits_in}

-- one line more
edits_more : (lines : List (List ℕ)) (line : List ℕ) → edits_in (lines ++ line ∷ []) ≡ edits_in lines + (if is_skipped line then 0 else 1)
unfolding edits_in
edits_more [] line = omega arith
edits_more (x ∷ lines) line = let rest = edits_more lines line in omega (arith, rest)

taken : (lines : List (String Global)) (index : ℕ) (line : String Global) → index < length lines → line ≡ get_or lines index line
    → edits_in (map string_bytes (take (index + 1) lines)) ≡ edits_in (map string_bytes (take index lines)) + (if is_skipped (string_bytes line) then 0 else 1)
taken lines index line below at =
    let one : index + 1 ≡ suc index = omega arith in
    ap (λ n. edits_in (map string_bytes (take n lines))) one
    ∙ ap (λ (ls : List (String Global)). edits_in (map string_bytes ls)) (take-suc lines index line below ∙ ap (λ (l : String Global). take index lines ++ (l ∷ [])) (sym at))
    ∙ ap edits_in (map-append string_bytes (take index lines) (line ∷ []))
    ∙ edits_more (map string_bytes (take index lines)) (string_bytes line)

-- how many edits are left after a line
abbrev pub left_after : ℕ → Bool → ℕ
left_after left true = left
left_after left false = left - 1

-- a line is passed: what it has is taken from the edits that are left
pub passed_one : (lines : List (String Global)) (index : ℕ) (line : String Global) (edits left next : ℕ) (skipped : Bool) → index < length lines → line ≡ get_or lines index line
    → is_skipped (string_bytes line) ≡ skipped → next ≡ left_after left skipped → edits_in (map string_bytes (take index lines)) + left ≡ edits → (left ≡ 0 → ⊥)
    → edits_in (map string_bytes (take (index + 1) lines)) + next ≡ edits
passed_one lines index line edits left next true below at is after so_far some =
    let step = taken lines index line below at ∙ ap (λ (b : Bool). edits_in (map string_bytes (take index lines)) + (if b then 0 else 1)) is in
    omega (arith, step, after, so_far)
passed_one lines index line edits left next false below at is after so_far some =
    let step = taken lines index line below at ∙ ap (λ (b : Bool). edits_in (map string_bytes (take index lines)) + (if b then 0 else 1)) is in
    omega (arith, step, after, so_far, some)

-- an element of a list that has one at this place
pub element : {X : Type 0} (xs : List X) (k : ℕ) → k < length xs → X
element [] k low = absurd (omega (arith, low))
element (x ∷ xs) k low = x
