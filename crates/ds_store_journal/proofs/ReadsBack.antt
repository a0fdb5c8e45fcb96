-- Words that were written are read back.
use Rattle.std.proofs.Common.{◌≡◌, ℕ, suc, ◌+◌, ◌-◌, ◌*◌, ◌^◌, ◌<◌, ◌≤◌, Bool, true, false, cond, eqb, leb, ltb, List, [], ◌∷◌, ◌++◌, length, take, drop, Option, Some, None, Ok, Err, refl, sym, subst, ap, ◌∙◌, ◌%◌, arith, length-append}
use Rattle.std.specs.Prelude.{nat_lt, ◌&&◌, not}
use Rattle.std.specs.List.{position_or_len}
use Rattle.std.specs.Str.{bytes_eq}
use Rattle.std.specs.Fmt.{decimal}
use Rattle.std.specs.Char.{is_ascii_alphabetic, to_ascii_uppercase}
use Rattle.std.proofs.lemmas.Bool.{le-leb}
use Rattle.std.proofs.lemmas.Bool.Decides.{nat_tests}
use Rattle.std.proofs.lemmas.Fmt.{decimal_by_steps}
use Rattle.std.proofs.lemmas.List.{append-nil}
use Rattle.ds_formula.specs.declared.cells.Shape.{Shape}
use Rattle.ds_formula.specs.declared.cells.Cell.{Cell}
use Rattle.ds_formula.specs.Bytes.{Read, number_from, unexpected_stop}
use Rattle.ds_formula.specs.Cells.{IsInside}
use Rattle.ds_formula.specs.Names.{cell_text, cell_named, behind_column, behind_row}
use Rattle.ds_formula.specs.References.{letters_at, letters_from, row_at, cell_of}
use Rattle.ds_formula.proofs.Digits.{unequal, decimal_starts, number_through}
use Rattle.ds_script_io.specs.ScriptLines.{word_of, word_by}
use Rattle.ds_script_io.specs.Fields.{◌>>=◌, number_below, number_field, cell_field, is_empty}
use Rattle.ds_store_journal.specs.Journals.{after_verb}

-- ---- words

abbrev is_blank : ℕ → Bool
is_blank b = eqb b 32

-- no byte is a space
abbrev pub HaveNoSpace : List ℕ → Type 0
HaveNoSpace [] = Unit {0}
HaveNoSpace (b ∷ bs) = (eqb b 32 ≡ false) × HaveNoSpace bs

both_plain : (ds bs : List ℕ) → HaveNoSpace ds → HaveNoSpace bs → HaveNoSpace (ds ++ bs)
both_plain [] bs h k = k
both_plain (d ∷ ds) bs h k = (h.0, both_plain ds bs h.1 k)

length_alone : (ds : List ℕ) → HaveNoSpace ds → position_or_len is_blank ds ≡ length ds
length_alone [] h = refl
length_alone (d ∷ ds) h = let more = length_alone ds h.1 in rw h.0 (omega (arith, more))

length_then : (ds rest : List ℕ) → HaveNoSpace ds → position_or_len is_blank (ds ++ 32 ∷ rest) ≡ length ds
length_then [] rest h = refl
length_then (d ∷ ds) rest h = let more = length_then ds rest h.1 in rw h.0 (omega (arith, more))

take_front : (ds rest : List ℕ) → take (length ds) (ds ++ rest) ≡ ds
take_front [] rest = refl
take_front (d ∷ ds) rest = ap (λ xs. d ∷ xs) (take_front ds rest)

drop_front : (ds : List ℕ) (b : ℕ) (rest : List ℕ) (n : ℕ) → n ≡ length ds + 1 → drop n (ds ++ b ∷ rest) ≡ rest
drop_front [] b rest n e = let one : n ≡ 1 = omega (arith, e) in rw one refl
drop_front (d ∷ ds) b rest n e = let more : n ≡ suc (length ds + 1) = omega (arith, e) in rw more (drop_front ds b rest (length ds + 1) refl)

-- bytes without a space are one word
pub word_alone : (ds : List ℕ) → HaveNoSpace ds → word_of ds ≡ (ds, None)
word_alone ds h =
    let n = length ds in
    let all : nat_lt n n ≡ false = grind (arith, nat_tests) in
    ap (λ k. word_by (cond (nat_lt k n) (Some k) None) ds) (length_alone ds h) ∙ ap (λ b. word_by (cond b (Some n) None) ds) all

-- before a space they are the first word
pub word_then : (ds rest : List ℕ) → HaveNoSpace ds → word_of (ds ++ 32 ∷ rest) ≡ (ds, Some rest)
word_then ds rest h =
    let xs = ds ++ 32 ∷ rest in
    let n = length ds in
    let m = length xs in
    let long = length-append ds (32 ∷ rest) in
    let low : n < m = omega (arith, long) in
    let under : nat_lt n m ≡ true = grind (arith, nat_tests) in
    ap (λ k. word_by (cond (nat_lt k m) (Some k) None) xs) (length_then ds rest h) ∙ (ap (λ b. word_by (cond b (Some n) None) xs) under
    ∙ (ap (λ front. (front, Some (drop (n + 1) xs))) (take_front ds (32 ∷ rest)) ∙ ap (λ back. (ds, Some back)) (drop_front ds 32 rest (n + 1) refl)))

-- what is after a verb
pub after_back : (verb rest : List ℕ) → HaveNoSpace verb → bytes_eq verb verb ≡ true → after_verb verb (verb ++ 32 ∷ rest) ≡ Some rest
after_back verb rest h same = ap (λ (w : List ℕ × Option (List ℕ)). cond (bytes_eq w.0 verb) w.1 None) (word_then verb rest h) ∙ ap (λ b. cond b (Some rest) None) same

-- ---- numbers

digit_plain : (d : ℕ) → d < 10 → eqb (48 + d) 32 ≡ false
digit_plain d h = unequal (48 + d) 32 (λ e. omega (arith, e))

-- digits have no space
pub decimal_plain : (n : ℕ) → n < 2 ^ 64 → HaveNoSpace (decimal n)
decimal_plain n h = decimal_by_steps (λ _ ds. HaveNoSpace ds)
    (λ m l. (digit_plain m l, tt))
    (λ m ds l ih. both_plain ds ((48 + m % 10) ∷ []) ih (digit_plain (m % 10) (omega arith), tt))
    n h

number_whole : (n : ℕ) → n < 2 ^ 64 → number_from 0 (decimal n) ≡ (n, [])
number_whole n h = ap (number_from 0) (sym (append-nil (decimal n))) ∙ number_through n h []

-- a number below the limit is read as it was written
below_back : (limit n : ℕ) → n < limit → n < 2 ^ 64 → number_below limit (decimal n) ≡ Some n
below_back limit n low h =
    let d = decimal_starts n h in
    let some : is_empty (decimal n) ≡ false = ap is_empty d.is in
    let under : nat_lt n limit ≡ true = grind (arith, nat_tests) in
    ap (λ (r : ℕ × List ℕ). cond (not (is_empty (decimal n)) && (is_empty r.1 && nat_lt r.0 limit)) (Some r.0) None) (number_whole n h)
    ∙ (ap (λ b. cond (not b && (true && nat_lt n limit)) (Some n) None) some ∙ ap (λ b. cond b (Some n) None) under)

pub number_alone : (limit n : ℕ) → n < limit → n < 2 ^ 64 → number_field limit (Some (decimal n)) ≡ Some (n, None)
number_alone limit n low h =
    ap (λ (w : List ℕ × Option (List ℕ)). number_below limit w.0 >>= λ k. Some (k, w.1)) (word_alone (decimal n) (decimal_plain n h))
    ∙ ap (λ (o : Option ℕ). o >>= λ k. Some (k, None)) (below_back limit n low h)

pub number_then : (limit n : ℕ) (rest : List ℕ) → n < limit → n < 2 ^ 64 → number_field limit (Some (decimal n ++ 32 ∷ rest)) ≡ Some (n, Some rest)
number_then limit n rest low h =
    ap (λ (w : List ℕ × Option (List ℕ)). number_below limit w.0 >>= λ k. Some (k, w.1)) (word_then (decimal n) rest (decimal_plain n h))
    ∙ ap (λ (o : Option ℕ). o >>= λ k. Some (k, Some rest)) (below_back limit n low h)

-- ---- cells

cell_text_is : (s : Shape) (c : Cell) → IsInside s c → cell_text c ≡ (65 + c.column) ∷ decimal (c.row + 1)
cell_text_is s c h =
    let p : ltb c.column 26 ≡ true = (let k : c.column < 26 = omega (arith, h.column, s.within.columns_to_z) in grind (arith, nat_tests)) in
    let q : ltb c.row 64 ≡ true = (let k : c.row < 64 = omega (arith, h.row, s.within.rows_to_64) in grind (arith, nat_tests)) in
    rw (p, q) refl

abbrev starts_letter : List ℕ → Bool
starts_letter [] = false
starts_letter (b ∷ bs) = is_ascii_alphabetic b

letters_stop : (n : ℕ) (rest : List ℕ) → starts_letter rest ≡ false → letters_from n rest ≡ (n, rest)
letters_stop n [] e = refl
letters_stop n (b ∷ bs) e = ap (λ (t : Bool). cond t (letters_from (26 * n + (to_ascii_uppercase b - 64)) bs) (n, b ∷ bs)) e

upper : (c : ℕ) → c < 26 → 26 * 0 + (to_ascii_uppercase (65 + c) - 64) ≡ c + 1
upper c h =
    let p : ltb (65 + c) 97 ≡ true = grind (arith, nat_tests) in
    let q : to_ascii_uppercase (65 + c) ≡ 65 + c = rw p refl in
    omega (arith, q)

abbrev column_done : ℕ × List ℕ → Read ℕ
column_done x = Ok x

letters_back : (c : ℕ) (rest : List ℕ) → c < 26 → starts_letter rest ≡ false → letters_at ((65 + c) ∷ rest) ≡ Ok (c + 1, rest)
unfolding letters_at
letters_back c rest h e =
    let a : is_ascii_alphabetic (65 + c) ≡ true = grind (arith, nat_tests) in
    ap (λ (t : Bool). cond t (Ok (letters_from 0 ((65 + c) ∷ rest))) (Err (unexpected_stop ((65 + c) ∷ rest)))) a
    ∙ ap column_done (ap (λ (t : Bool). cond t (letters_from (26 * 0 + (to_ascii_uppercase (65 + c) - 64)) rest) (0, (65 + c) ∷ rest)) a
    ∙ (ap (λ (x : ℕ). letters_from x rest) (upper c h) ∙ letters_stop (c + 1) rest e))

no_letter : (b : ℕ) → 48 ≤ b → b ≤ 57 → is_ascii_alphabetic b ≡ false
no_letter b l h = grind (arith, nat_tests)

row_of : (b : ℕ) (bs : List ℕ) → 49 ≤ b → b ≤ 57 → row_at (b ∷ bs) ≡ Ok (number_from 0 (b ∷ bs))
unfolding row_at
row_of b bs l h =
    let q : leb 49 b ≡ true = le-leb 49 b l in
    let r : leb b 57 ≡ true = le-leb b 57 h in
    rw (q, r) refl

rows_back : (m : ℕ) → 0 < m → m < 2 ^ 64 → row_at (decimal m) ≡ Ok (m, [])
rows_back m z h =
    let d = decimal_starts m h in
    ap row_at d.is ∙ (row_of d.head d.tail (d.positive z) d.high ∙ ap (λ (x : List ℕ). column_done (number_from 0 x)) (sym d.is)) ∙ ap column_done (number_whole m h)

cell_back : (s : Shape) (c : Cell) → IsInside s c → cell_of s (c.column + 1) (c.row + 1) ≡ Some c
cell_back s c h =
    let p : leb (c.column + 1) s.columns ≡ true = le-leb (c.column + 1) s.columns (omega (arith, h.column)) in
    let q : leb (c.row + 1) s.rows ≡ true = le-leb (c.row + 1) s.rows (omega (arith, h.row)) in
    let a : (c.column + 1) - 1 ≡ c.column = omega arith in
    let b : (c.row + 1) - 1 ≡ c.row = omega arith in
    let some : ℕ → ℕ → Option Cell = λ column row. Some (record { column = column; row = row }) in
    let e : cell_of s (c.column + 1) (c.row + 1) ≡ some ((c.column + 1) - 1) ((c.row + 1) - 1) = rw (p, q) refl in
    e ∙ (ap (λ (x : ℕ). some x ((c.row + 1) - 1)) a ∙ ap (λ (x : ℕ). some c.column x) b)

-- a cell of the sheet is read as it was written
named_back : (s : Shape) (c : Cell) → IsInside s c → cell_named s (cell_text c) ≡ Some c
named_back s c h =
    let m = c.row + 1 in
    let small : m < 2 ^ 64 = omega (arith, h.row, s.within.rows_to_64) in
    let d = decimal_starts m small in
    let n : starts_letter (decimal m) ≡ false = ap starts_letter d.is ∙ no_letter d.head d.low d.high in
    ap (cell_named s) (cell_text_is s c h)
    ∙ (ap (behind_column s) (letters_back c.column (decimal m) (omega (arith, h.column, s.within.columns_to_z)) n)
    ∙ (ap (behind_row s (c.column + 1)) (rows_back m (omega arith) small) ∙ cell_back s c h))

cell_plain : (s : Shape) (c : Cell) → IsInside s c → HaveNoSpace (cell_text c)
cell_plain s c h =
    let letter : HaveNoSpace ((65 + c.column) ∷ decimal (c.row + 1)) =
    (unequal (65 + c.column) 32 (λ e. omega (arith, e)), decimal_plain (c.row + 1) (omega (arith, h.row, s.within.rows_to_64))) in
    subst HaveNoSpace (sym (cell_text_is s c h)) letter

pub cell_alone : (s : Shape) (c : Cell) → IsInside s c → cell_field s (Some (cell_text c)) ≡ Some (c, None)
cell_alone s c h =
    ap (λ (w : List ℕ × Option (List ℕ)). cell_named s w.0 >>= λ k. Some (k, w.1)) (word_alone (cell_text c) (cell_plain s c h))
    ∙ ap (λ (o : Option Cell). o >>= λ k. Some (k, None)) (named_back s c h)

pub cell_then : (s : Shape) (c : Cell) (rest : List ℕ) → IsInside s c → cell_field s (Some (cell_text c ++ 32 ∷ rest)) ≡ Some (c, Some rest)
cell_then s c rest h =
    ap (λ (w : List ℕ × Option (List ℕ)). cell_named s w.0 >>= λ k. Some (k, w.1)) (word_then (cell_text c) rest (cell_plain s c h))
    ∙ ap (λ (o : Option Cell). o >>= λ k. Some (k, Some rest)) (named_back s c h)
