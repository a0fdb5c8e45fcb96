-- Rows that are numbered one after another.
use Rattle.std.proofs.Common.{◌≡◌, ◌<◌, ◌+◌, ℕ, ℤ, suc, pos, List, [], ◌∷◌, ◌++◌, length, fold, ap, ◌∙◌, ◌+ℤ◌, arith}
use Rattle.std.proofs.lemmas.Int.{ints}
use Rattle.std.proofs.lemmas.Bool.Decides.{nat_tests}
use Rattle.std.specs.declared.cmp.Ordering.TheVariants.{Less}
use Rattle.sqlite.specs.declared.types.Value.TheVariants.{Int}
use Rattle.sqlite.specs.Order.{Row, value_cmp}
use Rattle.sqlite.specs.Tree.{put_row, rowid}
use Rattle.sqlite.specs.Edit.{id_in}
use Rattle.sqlite_value.proofs.OrderLemmas.{value_cmp-Int}
use Rattle.ds_store_table.specs.Tables.{row_of, rows_from}

-- a lower number is an earlier row's
pub lower : (m n : ℕ) → m < n → value_cmp (Int (pos m)) (Int (pos n)) ≡ Less
lower m n h = value_cmp-Int (pos m) (pos n) ∙ grind (arith, ints, nat_tests)

-- a row with the number after those of the lines goes after them
pub goes_last : (number : ℕ) (lines : List (List ℕ)) (line : List ℕ) (last : ℕ) → last ≡ number + length lines
    → put_row (row_of last line) (rows_from number lines) ≡ rows_from number (lines ++ line ∷ [])
goes_last number [] line last is = ap (λ n. row_of n line ∷ []) (omega arith)
goes_last number (l ∷ lines) line last is =
    rw (lower number last (omega arith)) (ap (λ rows. row_of number l ∷ rows) (goes_last (suc number) lines line last (omega arith)))

-- the number that is chosen after the lines
pub chosen : (number : ℕ) (lines : List (List ℕ)) → fold (λ (_ : ℤ) (r : Row). id_in (rowid r) +ℤ pos 1) (pos number) (rows_from number lines) ≡ pos (number + length lines)
chosen number [] = ap pos (omega arith)
chosen number (l ∷ lines) =
    let one : pos number +ℤ pos 1 ≡ pos (suc number) = ap pos (omega arith) in
    ap (λ n. fold (λ (_ : ℤ) (r : Row). id_in (rowid r) +ℤ pos 1) n (rows_from (suc number) lines)) one ∙ chosen (suc number) lines ∙ ap pos (omega arith)
