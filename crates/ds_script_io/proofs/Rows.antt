-- The records of a report, one after another.
use Rattle.std.proofs.Common.{◌≡◌, ℕ, suc, ◌+◌, ◌*◌, ◌-◌, ◌<◌, List, ◌++◌, take, drop, map, sym, ap, ◌∙◌, append_assoc, arith, drop-drop}
use Rattle.csv.specs.Writing.{row_text, default_writer}
use Rattle.ds_eval.specs.declared.value.Value.{Value}
use Rattle.ds_eval.specs.Numbers.{value_text}
use Rattle.ds_script_io.specs.AnswerTexts.{rows_text}

-- one record more is written
pub rows_more : (columns rows i : ℕ) (values : List Value) (text whole : List ℕ) (fields : List (List ℕ)) → i < rows
    → text ++ rows_text columns (rows - i) (drop (i * columns) values) ≡ whole
    → fields ≡ map value_text (take (i * columns + columns - i * columns) (drop (i * columns) values))
    → (text ++ row_text default_writer fields) ++ rows_text columns (rows - (i + 1)) (drop ((i + 1) * columns) values) ≡ whole
rows_more columns rows i values text whole fields below so_far is =
    let rest : List Value = drop (i * columns) values in
    let own : List ℕ = row_text default_writer (map value_text (take columns rest)) in
    let behind : drop ((i + 1) * columns) values ≡ drop columns rest =
    ap (λ (n : ℕ). drop n values) (let e : (i + 1) * columns ≡ i * columns + columns = omega arith in e) ∙ sym (drop-drop columns (i * columns) values) in
    let fields_are : fields ≡ map value_text (take columns rest) =
    is ∙ ap (λ (n : ℕ). map value_text (take n rest)) (let e : i * columns + columns - i * columns ≡ columns = omega arith in e) in
    let split : rows_text columns (rows - i) rest ≡ own ++ rows_text columns (rows - (i + 1)) (drop columns rest) =
    ap (λ (n : ℕ). rows_text columns n rest) (let e : rows - i ≡ suc (rows - (i + 1)) = omega (arith, below) in e) in
    append_assoc text (row_text default_writer fields) (rows_text columns (rows - (i + 1)) (drop ((i + 1) * columns) values))
    ∙ ap (λ (fs : List (List ℕ)). text ++ (row_text default_writer fs ++ rows_text columns (rows - (i + 1)) (drop ((i + 1) * columns) values))) fields_are
    ∙ ap (λ (vs : List Value). text ++ (own ++ rows_text columns (rows - (i + 1)) vs)) behind
    ∙ ap (λ (t : List ℕ). text ++ t) (sym split)
    ∙ so_far
