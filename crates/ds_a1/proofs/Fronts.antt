-- What stands at the front of a formula that has a content, in A1 notation, and what it opens as.
use Rattle.std.proofs.Common.{◌≡◌, ℕ, ◌+◌, ◌-◌, ◌*◌, ◌≤◌, Bool, true, false, cond, leb, eqb, eqb-true, leb-true, le-leb, ◌&&◌, ◌||◌, List, [], ◌∷◌, ◌++◌, Option, Result, Ok, Err, refl, sym, ap, subst, ◌∙◌, append_assoc, arith}
use Rattle.std.specs.Char.{is_ascii_digit, is_ascii_alphabetic, to_ascii_uppercase}
use Rattle.ds_formula.specs.declared.cells.Shape.{Shape}
use Rattle.ds_formula.specs.declared.cells.Cell.{Cell}
use Rattle.ds_formula.specs.Bytes.{Read, ◌>>=◌, unexpected_stop, number_from, byte_at}
use Rattle.ds_formula.specs.References.{without_dollar, letters_from, letters_at, row_at, cell_of, corner_at}
use Rattle.ds_formula.specs.declared.tokens.Stop.{Stop}
use Rattle.ds_formula.proofs.Formed.{either, bind_with}
use Rattle.ds_a1.specs.Tokens.{are_digits, is_row, after_letters, is_column_and_row, is_cell}
use Rattle.ds_a1.proofs.Solids.{is_solid, are_solid, both, differs}

-- the text is these bytes and the rest
pub record Begins (text w rest : List ℕ) : Type 0 where
  pub is : text ≡ w ++ rest

-- ---- digits and letters

pub record HasDigits (text rest : List ℕ) : Type 0 where
  pub digits : List ℕ
  pub is : text ≡ digits ++ rest
  pub all : are_digits digits ≡ true

pub digits_from : (n : ℕ) (text : List ℕ) → HasDigits text (number_from n text).1
digits_from n [] = record { digits = []; is = refl; all = refl }
digits_from n (b ∷ bs) =
    let m = 10 * n + (b - 48) in
    let more = digits_from m bs in
    either (λ (x : ℕ × List ℕ). HasDigits (b ∷ bs) x.1) (is_ascii_digit b) (number_from m bs) (n, b ∷ bs)
    (λ e. record { digits = b ∷ more.digits; is = ap (λ (t : List ℕ). b ∷ t) more.is; all = ap (λ (t : Bool). t && are_digits more.digits) e ∙ more.all })
    (λ _. record { digits = []; is = refl; all = refl })

digit_solid : (b : ℕ) → is_ascii_digit b ≡ true → is_solid b ≡ true
digit_solid b e = by_test (is_ascii_alphabetic b) (is_ascii_digit b) (eqb b 36) e where
  by_test : (l d r : Bool) → d ≡ true → (l || (d || r)) ≡ true
  by_test true d r h = refl
  by_test false true r h = refl
  by_test false false r h = let bad : false ≡ true = h in cc

letter_solid : (b : ℕ) → is_ascii_alphabetic b ≡ true → is_solid b ≡ true
letter_solid b e = ap (λ (t : Bool). t || (is_ascii_digit b || eqb b 36)) e

pub digits_solid : (ds : List ℕ) → are_digits ds ≡ true → are_solid ds ≡ true
digits_solid [] e = refl
digits_solid (d ∷ ds) e =
    let h = both (is_ascii_digit d) (are_digits ds) e in
    ap (λ (t : Bool). t && are_solid ds) (digit_solid d h.0) ∙ digits_solid ds h.1

-- whether these are letters alone
abbrev pub are_letters : List ℕ → Bool
are_letters [] = true
are_letters (b ∷ bs) = is_ascii_alphabetic b && are_letters bs

pub letters_solid : (ls : List ℕ) → are_letters ls ≡ true → are_solid ls ≡ true
letters_solid [] e = refl
letters_solid (l ∷ ls) e =
    let h = both (is_ascii_alphabetic l) (are_letters ls) e in
    ap (λ (t : Bool). t && are_solid ls) (letter_solid l h.0) ∙ letters_solid ls h.1

pub record HasLetters (text rest : List ℕ) : Type 0 where
  pub letters : List ℕ
  pub is : text ≡ letters ++ rest
  pub all : are_letters letters ≡ true

letters_go : (n : ℕ) (text : List ℕ) → HasLetters text (letters_from n text).1
letters_go n [] = record { letters = []; is = refl; all = refl }
letters_go n (b ∷ bs) =
    let m = 26 * n + (to_ascii_uppercase b - 64) in
    let more = letters_go m bs in
    either (λ (x : ℕ × List ℕ). HasLetters (b ∷ bs) x.1) (is_ascii_alphabetic b) (letters_from m bs) (n, b ∷ bs)
    (λ e. record { letters = b ∷ more.letters; is = ap (λ (t : List ℕ). b ∷ t) more.is; all = ap (λ (t : Bool). t && are_letters more.letters) e ∙ more.all })
    (λ _. record { letters = []; is = refl; all = refl })

-- ---- columns and rows

-- a column: letters, at least one
pub record HasColumn (text rest : List ℕ) : Type 0 where
  pub first : ℕ
  pub others : List ℕ
  pub is : text ≡ first ∷ (others ++ rest)
  pub letter : is_ascii_alphabetic first ≡ true
  pub letters : are_letters others ≡ true

-- a row
pub record HasRow (text rest : List ℕ) : Type 0 where
  pub digits : List ℕ
  pub is : text ≡ digits ++ rest
  pub row : is_row digits ≡ true
  pub solid : are_solid digits ≡ true

-- a cell's name, after a dot
pub record HasCorner (text rest : List ℕ) : Type 0 where
  pub first : ℕ
  pub others : List ℕ
  pub is : text ≡ 46 ∷ ((first ∷ others) ++ rest)
  pub cell : is_cell (first ∷ others) ≡ true
  pub solid : are_solid (first ∷ others) ≡ true

abbrev pub ColumnIn : List ℕ → Read ℕ → Type 0
ColumnIn text (Ok x) = HasColumn text x.1
ColumnIn text (Err e) = Unit {0}

abbrev pub RowIn : List ℕ → Read ℕ → Type 0
RowIn text (Ok x) = HasRow text x.1
RowIn text (Err e) = Unit {0}

abbrev pub CornerIn : List ℕ → Read (Option Cell) → Type 0
CornerIn text (Ok x) = HasCorner text x.1
CornerIn text (Err e) = Unit {0}

one_letter_more : (b : ℕ) (bs rest : List ℕ) → is_ascii_alphabetic b ≡ true → HasLetters bs rest → HasColumn (b ∷ bs) rest
one_letter_more b bs rest e h = record { first = b; others = h.letters; is = ap (λ (t : List ℕ). b ∷ t) h.is; letter = e; letters = h.all }

column_in : (text : List ℕ) → ColumnIn text (letters_at text)
unfolding letters_at
column_in [] = tt
column_in (b ∷ bs) =
    either (ColumnIn (b ∷ bs)) (is_ascii_alphabetic b) (Ok (letters_from 0 (b ∷ bs))) (Err (unexpected_stop (b ∷ bs)))
    (λ e. subst (λ (x : ℕ × List ℕ). HasColumn (b ∷ bs) x.1) (sym (ap (λ (t : Bool). cond t (letters_from (26 * 0 + (to_ascii_uppercase b - 64)) bs) (0, b ∷ bs)) e))
    (one_letter_more b bs (letters_from (26 * 0 + (to_ascii_uppercase b - 64)) bs).1 e (letters_go (26 * 0 + (to_ascii_uppercase b - 64)) bs)))
    (λ _. tt)

first_digit : (b : ℕ) → (leb 49 b && leb b 57) ≡ true → is_ascii_digit b ≡ true
first_digit b e =
    let h = both (leb 49 b) (leb b 57) e in
    let most : leb b 57 ≡ true = h.1 in
    let low : leb 48 b ≡ true = le-leb 48 b (let k = leb-true 49 b h.0 in omega (arith, k)) in
    ap (λ (t : Bool). t && leb b 57) low ∙ most

row_more : (b : ℕ) (bs rest : List ℕ) → (leb 49 b && leb b 57) ≡ true → HasDigits bs rest → HasRow (b ∷ bs) rest
row_more b bs rest e h = record {
  digits = b ∷ h.digits;
  is = ap (λ (t : List ℕ). b ∷ t) h.is;
  row = ap (λ (t : Bool). t && are_digits h.digits) e ∙ h.all;
  solid = ap (λ (t : Bool). t && are_solid h.digits) (digit_solid b (first_digit b e)) ∙ digits_solid h.digits h.all;
}

row_in : (text : List ℕ) → RowIn text (row_at text)
unfolding row_at
row_in [] = tt
row_in (b ∷ bs) =
    either (RowIn (b ∷ bs)) (leb 49 b && leb b 57) (Ok (number_from 0 (b ∷ bs))) (Err (unexpected_stop (b ∷ bs)))
    (λ e. subst (λ (x : ℕ × List ℕ). HasRow (b ∷ bs) x.1) (sym (ap (λ (t : Bool). cond t (number_from (10 * 0 + (b - 48)) bs) (0, b ∷ bs)) (first_digit b e)))
    (row_more b bs (number_from (10 * 0 + (b - 48)) bs).1 e (digits_from (10 * 0 + (b - 48)) bs)))
    (λ _. tt)

-- ---- corners

-- the text without a `$`, and the one with it
pub data HasDollar (text : List ℕ) : Type 0 where
  without : without_dollar text ≡ text → HasDollar text
  with_one : text ≡ 36 ∷ without_dollar text → HasDollar text

dollar_of : (text : List ℕ) → HasDollar text
dollar_of [] = without refl
dollar_of (b ∷ bs) = by_test (eqb b 36) refl where
  by_test : (t : Bool) → eqb b 36 ≡ t → HasDollar (b ∷ bs)
  by_test true e =
      let one : without_dollar (b ∷ bs) ≡ bs = ap (λ (t : Bool). cond t bs (b ∷ bs)) e in
      let is : b ≡ 36 = eqb-true b 36 e in
      with_one (ap (λ (x : ℕ). x ∷ bs) is ∙ ap (λ (t : List ℕ). 36 ∷ t) (sym one))
  by_test false e = without (ap (λ (t : Bool). cond t bs (b ∷ bs)) e)

pub letters_pass : (ls rest : List ℕ) → are_letters ls ≡ true → after_letters rest ≡ rest → after_letters (ls ++ rest) ≡ rest
letters_pass [] rest e h = h
letters_pass (l ∷ ls) rest e h =
    let k = both (is_ascii_alphabetic l) (are_letters ls) e in
    ap (λ (t : Bool). cond t (after_letters (ls ++ rest)) (l ∷ (ls ++ rest))) k.0 ∙ letters_pass ls rest k.1 h

pub digit_no_letter : (b : ℕ) → is_ascii_digit b ≡ true → is_ascii_alphabetic b ≡ false
digit_no_letter b e =
    let h = both (leb 48 b) (leb b 57) e in
    let most = leb-true b 57 h.1 in
    by_test (leb 65 b) (leb b 90) (leb 97 b) (leb b 122) refl refl most where
      by_test : (t u v w : Bool) → leb 65 b ≡ t → leb 97 b ≡ v → b ≤ 57 → ((t && u) || (v && w)) ≡ false
      by_test true u v w x y z = absurd (let k = leb-true 65 b x in omega (arith, k, z))
      by_test false u true w x y z = absurd (let k = leb-true 97 b y in omega (arith, k, z))
      by_test false u false w x y z = refl

-- a row with a `$` or without: what is after the letters of a name
pub record HasEnd (text rest : List ℕ) : Type 0 where
  pub bytes : List ℕ
  pub is : text ≡ bytes ++ rest
  pub row : is_row (without_dollar bytes) ≡ true
  pub no_letter : after_letters bytes ≡ bytes
  pub solid : are_solid bytes ≡ true

row_starts : (ds : List ℕ) → is_row ds ≡ true → after_letters ds ≡ ds
row_starts [] e = refl
row_starts (d ∷ ds) e =
    let h = both (leb 49 d && leb d 57) (are_digits ds) e in
    ap (λ (t : Bool). cond t (after_letters ds) (d ∷ ds)) (digit_no_letter d (first_digit d h.0))

pub no_dollar : (b : ℕ) (bs : List ℕ) → eqb b 36 ≡ false → without_dollar (b ∷ bs) ≡ b ∷ bs
no_dollar b bs e = ap (λ (t : Bool). cond t bs (b ∷ bs)) e

row_undollared : (ds : List ℕ) → is_row ds ≡ true → without_dollar ds ≡ ds
row_undollared [] e = refl
row_undollared (d ∷ ds) e =
    let h = both (leb 49 d && leb d 57) (are_digits ds) e in
    no_dollar d ds (differs is_ascii_digit d 36 (first_digit d h.0) refl)

-- a row after a `$`, or without one
end_of : (text rest : List ℕ) → HasRow (without_dollar text) rest → HasEnd text rest
end_of text rest h = by_dollar (dollar_of text) where
  by_dollar : HasDollar text → HasEnd text rest
  by_dollar (without e) = record { bytes = h.digits; is = sym e ∙ h.is; row = ap is_row (row_undollared h.digits h.row) ∙ h.row; no_letter = row_starts h.digits h.row; solid = h.solid }
  by_dollar (with_one e) = record { bytes = 36 ∷ h.digits; is = e ∙ ap (λ (t : List ℕ). 36 ∷ t) h.is; row = h.row; no_letter = refl; solid = h.solid }

solids_join : (v w : List ℕ) → are_solid v ≡ true → are_solid w ≡ true → are_solid (v ++ w) ≡ true
solids_join [] w e h = h
solids_join (b ∷ v) w e h =
    let k = both (is_solid b) (are_solid v) e in
    ap (λ (t : Bool). t && are_solid (v ++ w)) k.0 ∙ solids_join v w k.1 h

-- a column, and what is after its letters
name_of : (text mid rest : List ℕ) → HasColumn text mid → HasEnd mid rest → (w : List ℕ) × (text ≡ w ++ rest) × (is_column_and_row w ≡ true) × (are_solid w ≡ true) × (without_dollar w ≡ w)
name_of text mid rest c e = (
  c.first ∷ (c.others ++ e.bytes),
  c.is ∙ ap (λ (t : List ℕ). c.first ∷ (c.others ++ t)) e.is ∙ ap (λ (t : List ℕ). c.first ∷ t) (sym (append_assoc c.others e.bytes rest)),
  ap (λ (t : Bool). t && is_row (without_dollar (after_letters (c.others ++ e.bytes)))) c.letter ∙ ap (λ (t : List ℕ). is_row (without_dollar t)) (letters_pass c.others e.bytes c.letters e.no_letter) ∙ e.row,
  ap (λ (t : Bool). t && are_solid (c.others ++ e.bytes)) (letter_solid c.first c.letter) ∙ solids_join c.others e.bytes (letters_solid c.others c.letters) e.solid,
  no_dollar c.first (c.others ++ e.bytes) (differs is_ascii_alphabetic c.first 36 c.letter refl),
)

corner_by : (text dot mid rest : List ℕ) → text ≡ 46 ∷ dot → HasColumn (without_dollar dot) mid → HasEnd mid rest → HasCorner text rest
unfolding is_cell
corner_by text dot mid rest is c e = by_dollar (dollar_of dot) (name_of (without_dollar dot) mid rest c e) where
  by_name : (w : List ℕ) → dot ≡ w ++ rest → is_cell w ≡ true → are_solid w ≡ true → HasCorner text rest
  by_name [] d cell solid = let bad : false ≡ true = cell in absurd (cc)
  by_name (b ∷ w) d cell solid = record { first = b; others = w; is = is ∙ ap (λ (t : List ℕ). 46 ∷ t) d; cell = cell; solid = solid }

  by_dollar : HasDollar dot → (w : List ℕ) × (without_dollar dot ≡ w ++ rest) × (is_column_and_row w ≡ true) × (are_solid w ≡ true) × (without_dollar w ≡ w) → HasCorner text rest
  by_dollar (without h) n = by_name n.0 (sym h ∙ n.1) (ap is_column_and_row n.4 ∙ n.2) n.3
  by_dollar (with_one h) n = by_name (36 ∷ n.0) (h ∙ ap (λ (t : List ℕ). 36 ∷ t) n.1) n.2 n.3

-- a byte that has to come is the first one
abbrev pub ByteIn : ℕ → List ℕ → Result (List ℕ) Stop → Type 0
ByteIn byte text (Ok rest) = text ≡ byte ∷ rest
ByteIn byte text (Err e) = Unit {0}

pub byte_in : (byte : ℕ) (text : List ℕ) → ByteIn byte text (byte_at byte text)
unfolding byte_at
byte_in byte [] = tt
byte_in byte (b ∷ bs) = either (ByteIn byte (b ∷ bs)) (eqb b byte) (Ok bs) (Err (unexpected_stop (b ∷ bs))) (λ e. ap (λ (x : ℕ). x ∷ bs) (eqb-true b byte e)) (λ _. tt)

pub corner_in : (s : Shape) (text : List ℕ) → CornerIn text (corner_at s text)
unfolding corner_at
corner_in s text =
    bind_with (ByteIn 46 text) (CornerIn text) (byte_at 46 text) (λ dot. letters_at (without_dollar dot) >>= λ column. row_at (without_dollar column.1) >>= λ row. Ok (cell_of s column.0 row.0, row.1)) (byte_in 46 text) (λ _. tt)
    (λ dot k. bind_with (ColumnIn (without_dollar dot)) (CornerIn text) (letters_at (without_dollar dot)) (λ column. row_at (without_dollar column.1) >>= λ row. Ok (cell_of s column.0 row.0, row.1))
    (column_in (without_dollar dot)) (λ _. tt)
    (λ column j. bind_with (RowIn (without_dollar column.1)) (CornerIn text) (row_at (without_dollar column.1)) (λ row. Ok (cell_of s column.0 row.0, row.1))
    (row_in (without_dollar column.1)) (λ _. tt) (λ row i. corner_by text dot column.1 row.1 k j (end_of column.1 row.1 i))))
