-- One row more.
use Rattle.std.proofs.Common.{◌≡◌, ℕ, suc, ◌+◌, ◌-◌, ◌<◌, ◌≤◌, nat_lt, Bool, true, false, List, [], ◌∷◌, ◌++◌, take, drop, map, length, min, refl, sym, ap, ◌∙◌, append_assoc, arith}
use Rattle.std.proofs.lemmas.List.{take_all, drop_all}
use Rattle.serde_json.specs.Data.{Data}
use Rattle.ds_eval.specs.declared.value.Value.{Value}
use Rattle.ds_server.specs.SessionTexts.{row_data, rows_of}

-- the next row, after those so far, leaves the rows that are still to come
pub rows_more : (columns rows i : ℕ) (rest : List Value) (so_far whole : List Data) (first behind : List Value) (d : Data) (items : List Data) → i < rows
    → so_far ++ map row_data (rows_of columns (rows - i) rest) ≡ whole → first ≡ take columns rest → behind ≡ drop columns rest → d ≡ row_data first → items ≡ so_far ++ d ∷ []
    → items ++ map row_data (rows_of columns (rows - (i + 1)) behind) ≡ whole
rows_more columns rows i rest so_far whole first behind d items below so f b dd is =
    let n : rows - i ≡ suc (rows - (i + 1)) = omega (arith, below) in
    let split : map row_data (rows_of columns (rows - i) rest) ≡ row_data (take columns rest) ∷ map row_data (rows_of columns (rows - (i + 1)) (drop columns rest)) =
    ap (λ (k : ℕ). map row_data (rows_of columns k rest)) n in
    ap (λ (l : List Data). l ++ map row_data (rows_of columns (rows - (i + 1)) behind)) is
    ∙ append_assoc so_far (d ∷ []) (map row_data (rows_of columns (rows - (i + 1)) behind))
    ∙ ap (λ (x : Data). so_far ++ x ∷ map row_data (rows_of columns (rows - (i + 1)) behind)) (dd ∙ ap row_data f)
    ∙ ap (λ (l : List Value). so_far ++ row_data (take columns rest) ∷ map row_data (rows_of columns (rows - (i + 1)) l)) b
    ∙ ap (λ (l : List Data). so_far ++ l) (sym split)
    ∙ so

take_min_by : (n : ℕ) (l : List Value) (b : Bool) → nat_lt n (length l) ≡ b → (take (min n (length l)) l ≡ take n l) × (drop (min n (length l)) l ≡ drop n l)
take_min_by n l true t = let h : n < length l = grind (arith, t) in let m : min n (length l) ≡ n = omega (arith, h) in (ap (λ (k : ℕ). take k l) m, ap (λ (k : ℕ). drop k l) m)
take_min_by n l false t =
    let h : length l ≤ n = grind (arith, t) in
    let m : min n (length l) ≡ length l = omega (arith, h) in
    let here : length l ≤ length l = omega arith in (
      ap (λ (k : ℕ). take k l) m ∙ take_all (length l) l here ∙ sym (take_all n l h),
      ap (λ (k : ℕ). drop k l) m ∙ drop_all (length l) l here ∙ sym (drop_all n l h),
    )

-- a list has no more to take, or to drop, than its length
pub take_min : (n : ℕ) (l : List Value) → (take (min n (length l)) l ≡ take n l) × (drop (min n (length l)) l ≡ drop n l)
take_min n l = take_min_by n l (nat_lt n (length l)) refl
