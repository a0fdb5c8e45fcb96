-- What is shown of a store's sheet as it was.
use Rattle.std.proofs.Common.{String, Global, ◌≡◌, ◌+◌, ◌<◌, ◌∙◌, ℕ, suc, List, ◌∷◌, Option, Result, Ok, Err, IfOk, ap, arith, length, map, min, subst, sym, take, ⊎_elim}
use Rattle.std.proofs.lemmas.Bool.{cases_lt}
use Rattle.std.proofs.lemmas.List.{take-map, take_all}
use Rattle.std.specs.String.{string_bytes}
use Rattle.ds_formula.specs.declared.cells.Cell.{Cell}
use Rattle.ds_store_commands.specs.declared.tables.Cells.{Cells}
use Rattle.ds_store_commands.specs.Asked.{IsPartOf, IsShownAt}
use Rattle.ds_store_commands.specs.Logs.{HaveFirst}
use Rattle.ds_store_commands.specs.Tables.{IsTableOf}

-- the first line, and the first of the others
first_of : {X : Type 0} (first : X) (rest : List X) (n m : ℕ) → m ≡ min (n + 1) 18446744073709551615 → length (first ∷ rest) < 18446744073709551616 → take m (first ∷ rest) ≡ first ∷ take n rest
first_of first rest n m is few =
    ⊎_elim
    (λ low. let one : m ≡ suc n = omega (arith, is, low) in ap (λ k. take k (first ∷ rest)) one)
    (λ high. take_all m (first ∷ rest) (omega (arith, is, few, high)) ∙ ap (λ xs. first ∷ xs) (sym (take_all n rest (omega (arith, few, high)))))
    (cases_lt n 18446744073709551615)

-- a part of the table of the first line, and of those after it with the first edits
pub shown_at : (cells : Cells) (lines taken rest : List (String Global)) (first : String Global) (edits n m : ℕ) (only : Option Cell) (table shown : List ℕ)
    → lines ≡ first ∷ rest → length lines < 18446744073709551616 → HaveFirst edits (map string_bytes rest) n → m ≡ min (n + 1) 18446744073709551615 → taken ≡ take m lines
    → IsTableOf cells (map string_bytes taken) table → IsPartOf only table shown → IsShownAt cells (map string_bytes lines) edits only shown
shown_at cells lines taken rest first edits n m only table shown are few have is first_are table_is part =
    let whole : taken ≡ first ∷ take n rest = first_are ∙ ap (take m) are ∙ first_of first rest n m is (subst (λ (ls : List (String Global)). length ls < 18446744073709551616) are few) in
    record {
      first = string_bytes first;
      rest = map string_bytes rest;
      are = ap (λ (ls : List (String Global)). map string_bytes ls) are;
      count = n;
      have = have;
      table = table;
      is = subst (λ ls. IsTableOf cells ls table) (ap (λ (ls : List (String Global)). map string_bytes ls) whole ∙ ap (λ (ls : List (List ℕ)). string_bytes first ∷ ls) (sym (take-map string_bytes n rest))) table_is;
      part = part;
    }

-- what holds of a value holds of what was made well
pub if_ok : {X E : Type 0} (P Q : X → Type 0) (r : Result X E) → ((x : X) → P x → Q x) → IfOk r P → IfOk r Q
if_ok P Q (Ok x) f h = f x h
if_ok P Q (Err e) f h = tt
