-- The tokens of a text that was written are read back.
use Rattle.std.proofs.Common.{◌≡◌, ℕ, ◌+◌, ◌-◌, ◌*◌, ◌^◌, ◌<◌, ◌≤◌, min, max, pos, Bool, true, false, cond, eqb, leb, ltb, List, [], ◌∷◌, ◌++◌, length, Option, Some, Ok, Err, refl, sym, ap, ◌∙◌, arith}
use Rattle.std.proofs.lemmas.Bool.{le-leb}
use Rattle.std.proofs.lemmas.Bool.Decides.{nat_tests}
use Rattle.std.specs.Fmt.{decimal}
use Rattle.std.specs.Char.{is_ascii_digit, is_ascii_alphabetic, to_ascii_uppercase}
use Rattle.ds_formula.specs.declared.cells.Shape.{Shape}
use Rattle.ds_formula.specs.declared.cells.Cell.{Cell}
use Rattle.ds_formula.specs.declared.cells.Rect.{Rect}
use Rattle.ds_formula.specs.declared.content.Sign.{Sign}
use Rattle.ds_formula.specs.declared.content.Sign.TheVariants.{Plus, Minus}
use Rattle.ds_formula.specs.declared.content.Operator.{Operator}
use Rattle.ds_formula.specs.declared.content.Operator.TheVariants.{Multiply, Add, Subtract, Equal, NotEqual, Less, Greater, LessOrEqual, GreaterOrEqual}
use Rattle.ds_formula.specs.declared.content.Function.{Function}
use Rattle.ds_formula.specs.declared.content.Function.TheVariants.{Sum, Min, Max, Abs, Mod, Quotient, If, Count, And, Or, Not}
use Rattle.ds_formula.specs.declared.tokens.Leaf.{Leaf}
use Rattle.ds_formula.specs.declared.tokens.Leaf.TheVariants.{Number, Reference, Range}
use Rattle.ds_formula.specs.declared.tokens.Lead.{Lead}
use Rattle.ds_formula.specs.declared.tokens.Lead.TheVariants as leads
use Rattle.ds_formula.specs.declared.tokens.Follow.TheVariants.{Infix, Close, Semicolon, End}
use Rattle.ds_formula.specs.Cells.{IsInside}
use Rattle.ds_formula.specs.Bytes.{Read, ◌>>=◌, begins, skipped, number_from, number_at, byte_at, unexpected_stop}
use Rattle.ds_formula.specs.References.{without_dollar, letters_from, letters_at, row_at, cell_of, corner_at, area_of, both_inside, behind_corner, reference_at}
use Rattle.ds_formula.specs.Functions.{Scope, scope_of, name_of}
use Rattle.ds_formula.specs.Tokens.{name_at, lead_of, lead_at, after_less, after_greater, follow_of, follow_at, found, infix_of}
use Rattle.ds_formula.specs.Names.{cell_text}
use Rattle.ds_formula.specs.Texts.{sign_text, operator_text}
use Rattle.ds_formula.proofs.Formed.{IsArea}
use Rattle.ds_formula.proofs.Digits.{unequal, is_digit, not_skipped, decimal_starts, number_through, number_stops, number_back, starts_digit, Parts}

-- ---- numbers

lead_here : (s : Scope) (b : ℕ) (bs : List ℕ) → 33 ≤ b → lead_at s (b ∷ bs) ≡ lead_of s (b ∷ bs)
unfolding lead_at
lead_here s b bs h = ap (lead_of s) (not_skipped b bs h)

abbrev numbered : ℕ × List ℕ → Read Lead
numbered x = Ok (leads.Leaf (Number (pos x.0)), x.1)

digit_lead : (s : Scope) (b : ℕ) (bs : List ℕ) → 48 ≤ b → b ≤ 57 → lead_of s (b ∷ bs) ≡ (number_at (2 ^ 63 - 1) (b ∷ bs) >>= numbered)
unfolding lead_of
digit_lead s b bs l h =
    let p : eqb b 40 ≡ false = unequal b 40 (λ e. omega (arith, l, e)) in
    let q : eqb b 43 ≡ false = unequal b 43 (λ e. omega (arith, l, e)) in
    let r : eqb b 45 ≡ false = unequal b 45 (λ e. omega (arith, l, e)) in
    let u : eqb b 91 ≡ false = unequal b 91 (λ e. omega (arith, h, e)) in
    let d : is_ascii_digit b ≡ true = is_digit b l h in
    rw (p, q, r, u, d) refl

-- the decimal of a number of at most 2^63 - 1 is read back as that operand
pub literal_back : (s : Scope) (n : ℕ) (rest : List ℕ) → n ≤ 2 ^ 63 - 1 → Parts rest → lead_at s (decimal n ++ rest) ≡ Ok (leads.Leaf (Number (pos n)), rest)
literal_back s n rest l e =
    let d = decimal_starts n (omega (arith, l)) in
    let p : decimal n ++ rest ≡ d.head ∷ (d.tail ++ rest) = ap (λ (x : List ℕ). x ++ rest) d.is in
    ap (lead_at s) p ∙ lead_here s d.head (d.tail ++ rest) (omega (arith, d.low)) ∙ digit_lead s d.head (d.tail ++ rest) d.low d.high
    ∙ ap (λ (x : List ℕ). number_at (2 ^ 63 - 1) x >>= numbered) (sym p) ∙ ap (λ (x : Read ℕ). x >>= numbered) (number_back (2 ^ 63 - 1) n rest l (omega (arith, l)) e)

-- ---- cells

abbrev done : ℕ × List ℕ → Read ℕ
done x = Ok x

abbrev some : ℕ → ℕ → Option Cell
some column row = Some (record { column = column; row = row })

abbrev cell_done : Option Cell × List ℕ → Read (Option Cell)
cell_done x = Ok x

abbrev area : ℕ → ℕ → ℕ → ℕ → Rect
area left top right bottom = record { first = record { column = left; row = top }; last = record { column = right; row = bottom } }

cell_text_is : (s : Shape) (c : Cell) → IsInside s c → cell_text c ≡ (65 + c.column) ∷ decimal (c.row + 1)
cell_text_is s c h =
    let p : ltb c.column 26 ≡ true = (let k : c.column < 26 = omega (arith, h.column, s.within.columns_to_z) in grind (arith, nat_tests)) in
    let q : ltb c.row 64 ≡ true = (let k : c.row < 64 = omega (arith, h.row, s.within.rows_to_64) in grind (arith, nat_tests)) in
    rw (p, q) refl

abbrev starts_letter : List ℕ → Bool
starts_letter [] = false
starts_letter (b ∷ bs) = is_ascii_alphabetic b

letters_stop : (n : ℕ) (rest : List ℕ) → starts_letter rest ≡ false → letters_from n rest ≡ (n, rest)
letters_stop n [] e = refl
letters_stop n (b ∷ bs) e = ap (λ (t : Bool). cond t (letters_from (26 * n + (to_ascii_uppercase b - 64)) bs) (n, b ∷ bs)) e

upper : (c : ℕ) → c < 26 → 26 * 0 + (to_ascii_uppercase (65 + c) - 64) ≡ c + 1
upper c h =
    let p : ltb (65 + c) 97 ≡ true = grind (arith, nat_tests) in
    let q : to_ascii_uppercase (65 + c) ≡ 65 + c = rw p refl in
    omega (arith, q)

letters_back : (c : ℕ) (rest : List ℕ) → c < 26 → starts_letter rest ≡ false → letters_at (without_dollar ((65 + c) ∷ rest)) ≡ Ok (c + 1, rest)
unfolding letters_at
letters_back c rest h e =
    let p : eqb (65 + c) 36 ≡ false = unequal (65 + c) 36 (λ k. omega (arith, k)) in
    let a : is_ascii_alphabetic (65 + c) ≡ true = grind (arith, nat_tests) in
    ap (λ (t : Bool). letters_at (cond t rest ((65 + c) ∷ rest))) p
    ∙ ap (λ (t : Bool). cond t (Ok (letters_from 0 ((65 + c) ∷ rest))) (Err (unexpected_stop ((65 + c) ∷ rest)))) a
    ∙ ap (λ (x : ℕ × List ℕ). done x) (ap (λ (t : Bool). cond t (letters_from (26 * 0 + (to_ascii_uppercase (65 + c) - 64)) rest) (0, (65 + c) ∷ rest)) a
    ∙ ap (λ (x : ℕ). letters_from x rest) (upper c h) ∙ letters_stop (c + 1) rest e)

no_letter : (b : ℕ) → 48 ≤ b → b ≤ 57 → is_ascii_alphabetic b ≡ false
no_letter b l h = grind (arith, nat_tests)

row_of : (b : ℕ) (bs : List ℕ) → 49 ≤ b → b ≤ 57 → row_at (without_dollar (b ∷ bs)) ≡ Ok (number_from 0 (b ∷ bs))
unfolding row_at
row_of b bs l h =
    let p : eqb b 36 ≡ false = unequal b 36 (λ k. omega (arith, k, l)) in
    let q : leb 49 b ≡ true = le-leb 49 b l in
    let r : leb b 57 ≡ true = le-leb b 57 h in
    rw (p, q, r) refl

rows_back : (m : ℕ) (rest : List ℕ) → 0 < m → m < 2 ^ 64 → starts_digit rest ≡ false → row_at (without_dollar (decimal m ++ rest)) ≡ Ok (m, rest)
rows_back m rest z h e =
    let d = decimal_starts m h in
    let p : decimal m ++ rest ≡ d.head ∷ (d.tail ++ rest) = ap (λ (x : List ℕ). x ++ rest) d.is in
    ap (λ (x : List ℕ). row_at (without_dollar x)) p ∙ row_of d.head (d.tail ++ rest) (d.positive z) d.high
    ∙ ap (λ (x : List ℕ). done (number_from 0 x)) (sym p) ∙ ap done (number_through m h rest ∙ number_stops m rest e)

cell_back : (s : Shape) (c : Cell) → IsInside s c → cell_of s (c.column + 1) (c.row + 1) ≡ Some c
cell_back s c h =
    let p : leb (c.column + 1) s.columns ≡ true = le-leb (c.column + 1) s.columns (omega (arith, h.column)) in
    let q : leb (c.row + 1) s.rows ≡ true = le-leb (c.row + 1) s.rows (omega (arith, h.row)) in
    let a : (c.column + 1) - 1 ≡ c.column = omega arith in
    let b : (c.row + 1) - 1 ≡ c.row = omega arith in
    let e : cell_of s (c.column + 1) (c.row + 1) ≡ some ((c.column + 1) - 1) ((c.row + 1) - 1) = rw (p, q) refl in
    e ∙ ap (λ (x : ℕ). some x ((c.row + 1) - 1)) a ∙ ap (λ (x : ℕ). some c.column x) b

abbrev placed : Shape → ℕ × List ℕ → ℕ × List ℕ → Read (Option Cell)
placed s column row = Ok (cell_of s column.0 row.0, row.1)

corner_of : (s : Shape) (text : List ℕ) (column row : ℕ) (mid rest : List ℕ) → letters_at (without_dollar text) ≡ Ok (column, mid) → row_at (without_dollar mid) ≡ Ok (row, rest) → corner_at s (46 ∷ text) ≡ Ok (cell_of s column row, rest)
unfolding corner_at byte_at
corner_of s text column row mid rest h k =
    ap (λ (x : Read ℕ). x >>= λ c. row_at (without_dollar c.1) >>= λ r. placed s c r) h ∙ ap (λ (x : Read ℕ). x >>= λ r. placed s (column, mid) r) k

pub corner_back : (s : Shape) (c : Cell) (rest : List ℕ) → IsInside s c → starts_digit rest ≡ false → corner_at s (46 ∷ (cell_text c ++ rest)) ≡ Ok (Some c, rest)
corner_back s c rest h e =
    let m = c.row + 1 in
    let small : m < 2 ^ 64 = omega (arith, h.row, s.within.rows_to_64) in
    let d = decimal_starts m small in
    let p : decimal m ++ rest ≡ d.head ∷ (d.tail ++ rest) = ap (λ (x : List ℕ). x ++ rest) d.is in
    let n : starts_letter (decimal m ++ rest) ≡ false = ap starts_letter p ∙ no_letter d.head d.low d.high in
    ap (λ (x : List ℕ). corner_at s (46 ∷ (x ++ rest))) (cell_text_is s c h)
    ∙ corner_of s ((65 + c.column) ∷ (decimal m ++ rest)) (c.column + 1) m (decimal m ++ rest) rest (letters_back c.column (decimal m ++ rest) (omega (arith, h.column, s.within.columns_to_z)) n) (rows_back m rest (omega arith) small e)
    ∙ ap (λ (x : Option Cell). cell_done (x, rest)) (cell_back s c h)

-- ---- references and ranges

abbrev leafed : Leaf × List ℕ → Read Lead
leafed x = Ok (leads.Leaf x.0, x.1)

bracket_lead : (s : Scope) (bs : List ℕ) (l : Leaf) (rest : List ℕ) → reference_at s.shape (91 ∷ bs) ≡ Ok (l, rest) → lead_at s (91 ∷ bs) ≡ Ok (leads.Leaf l, rest)
unfolding lead_at lead_of
bracket_lead s bs l rest h = ap (λ (x : Read Leaf). x >>= leafed) h

reference_of : (s : Shape) (bs : List ℕ) (one : Option Cell) (mid : List ℕ) → corner_at s bs ≡ Ok (one, mid) → reference_at s (91 ∷ bs) ≡ behind_corner s (91 ∷ bs) one mid
unfolding reference_at byte_at
reference_of s bs one mid h = ap (λ (x : Read (Option Cell)). x >>= λ c. behind_corner s (91 ∷ bs) c.0 c.1) h

end_of : (s : Shape) (text : List ℕ) (c : Cell) (rest : List ℕ) → behind_corner s text (Some c) (93 ∷ rest) ≡ Ok (Reference c, rest)
unfolding byte_at
end_of s text c rest = refl

range_of : (s : Shape) (text : List ℕ) (a b : Cell) (bs rest : List ℕ) → corner_at s bs ≡ Ok (Some b, 93 ∷ rest) → behind_corner s text (Some a) (58 ∷ bs) ≡ Ok (Range (area_of a b) (length text), rest)
unfolding byte_at
range_of s text a b bs rest h = ap (λ (x : Read (Option Cell)). x >>= λ o. byte_at 93 o.1 >>= λ end. both_inside text (Some a) o.0 end) h

-- the text of a reference to a cell of the sheet is read back
pub reference_back : (s : Scope) (c : Cell) (rest : List ℕ) → IsInside s.shape c → lead_at s (91 ∷ 46 ∷ (cell_text c ++ 93 ∷ rest)) ≡ Ok (leads.Leaf (Reference c), rest)
reference_back s c rest h =
    bracket_lead s (46 ∷ (cell_text c ++ 93 ∷ rest)) (Reference c) rest
    (reference_of s.shape (46 ∷ (cell_text c ++ 93 ∷ rest)) (Some c) (93 ∷ rest) (corner_back s.shape c (93 ∷ rest) h refl) ∙ end_of s.shape (91 ∷ 46 ∷ (cell_text c ++ 93 ∷ rest)) c rest)

-- the text of a range between two cells of the sheet is read back
pub range_back : (s : Scope) (a b : Cell) (rest : List ℕ) → IsInside s.shape a → IsInside s.shape b
    → (n : ℕ) × (lead_at s (91 ∷ 46 ∷ (cell_text a ++ 58 ∷ 46 ∷ (cell_text b ++ 93 ∷ rest))) ≡ Ok (leads.Leaf (Range (area_of a b) n), rest))
range_back s a b rest h k =
    let behind : List ℕ = 46 ∷ (cell_text b ++ 93 ∷ rest) in
    let text : List ℕ = 46 ∷ (cell_text a ++ 58 ∷ behind) in (
      length (91 ∷ text),
      bracket_lead s text (Range (area_of a b) (length (91 ∷ text))) rest
          (reference_of s.shape text (Some a) (58 ∷ behind) (corner_back s.shape a (58 ∷ behind) h refl) ∙ range_of s.shape (91 ∷ text) a b behind rest (corner_back s.shape b (93 ∷ rest) k refl)),
    )

-- the range between the corners of a well-formed range is that range
pub area_back : (s : Shape) (r : Rect) → IsArea s r → area_of r.first r.last ≡ r
area_back s r h =
    let a : min r.first.column r.last.column ≡ r.first.column = omega (arith, h.columns) in
    let b : min r.first.row r.last.row ≡ r.first.row = omega (arith, h.rows) in
    let c : max r.first.column r.last.column ≡ r.last.column = omega (arith, h.columns) in
    let d : max r.first.row r.last.row ≡ r.last.row = omega (arith, h.rows) in
    ap (λ (x : ℕ). area x (min r.first.row r.last.row) (max r.first.column r.last.column) (max r.first.row r.last.row)) a
    ∙ ap (λ (x : ℕ). area r.first.column x (max r.first.column r.last.column) (max r.first.row r.last.row)) b
    ∙ ap (λ (x : ℕ). area r.first.column r.first.row x (max r.first.row r.last.row)) c ∙ ap (λ (x : ℕ). area r.first.column r.first.row r.last.column x) d

-- ---- names, signs and brackets

-- the name of a function before its bracket is read back
pub name_back : (s : Shape) (g : Function) (rest : List ℕ) → lead_at (scope_of s) (name_of g ++ 40 ∷ rest) ≡ Ok (leads.Name g (length (name_of g ++ 40 ∷ rest)), 40 ∷ rest)
unfolding lead_at lead_of name_at
name_back s Sum rest = refl
name_back s Min rest = refl
name_back s Max rest = refl
name_back s Abs rest = refl
name_back s Mod rest = refl
name_back s Quotient rest = refl
name_back s If rest = refl
name_back s Count rest = refl
name_back s And rest = refl
name_back s Or rest = refl
name_back s Not rest = refl

-- the text of a sign is read back where an operand is due
pub sign_back : (s : Scope) (g : Sign) (rest : List ℕ) → lead_at s (sign_text g ++ rest) ≡ Ok (leads.Prefix g, rest)
unfolding lead_at lead_of
sign_back s Plus rest = refl
sign_back s Minus rest = refl

-- `(` is read back where an operand is due
pub open_back : (s : Scope) (rest : List ℕ) → lead_at s (40 ∷ rest) ≡ Ok (leads.Open, rest)
unfolding lead_at lead_of
open_back s rest = refl

-- an opening bracket at the front is found after the name of a call
pub bracket_back : (rest : List ℕ) → byte_at 40 (skipped (40 ∷ rest)) ≡ Ok rest
unfolding byte_at
bracket_back rest = refl

-- `)` is read back after an operand
pub close_back : (rest : List ℕ) → follow_at (41 ∷ rest) ≡ Ok (Close, rest)
unfolding follow_at follow_of
close_back rest = refl

-- `;` is read back after an operand
pub semicolon_back : (rest : List ℕ) → follow_at (59 ∷ rest) ≡ Ok (Semicolon, rest)
unfolding follow_at follow_of
semicolon_back rest = refl

-- the end of a text is read back
pub end_back : follow_at [] ≡ Ok (End, [])
unfolding follow_at follow_of
end_back = refl

-- no byte that would lengthen an operator
pub record Leads (text : List ℕ) : Type 0 where
  pub no_equals : begins 61 text ≡ false
  pub no_greater : begins 62 text ≡ false

less_back : (rest : List ℕ) → Leads rest → after_less rest ≡ (Less, rest)
less_back [] h = refl
less_back (b ∷ bs) h = let p = h.no_greater in let q = h.no_equals in rw (p, q) refl

greater_back : (rest : List ℕ) → Leads rest → after_greater rest ≡ (Greater, rest)
greater_back [] h = refl
greater_back (b ∷ bs) h = let q = h.no_equals in rw q refl

-- the text of an operator is read back, before no `=` or `>`, which would lengthen it
pub operator_back : (o : Operator) (rest : List ℕ) → Leads rest → follow_at (operator_text o ++ rest) ≡ Ok (Infix o, rest)
unfolding follow_at follow_of
operator_back Multiply rest h = refl
operator_back Add rest h = refl
operator_back Subtract rest h = refl
operator_back Equal rest h = refl
operator_back NotEqual rest h = refl
operator_back Less rest h = ap (λ (x : Operator × List ℕ). found (60 ∷ rest) (infix_of x)) (less_back rest h)
operator_back Greater rest h = ap (λ (x : Operator × List ℕ). found (62 ∷ rest) (infix_of x)) (greater_back rest h)
operator_back LessOrEqual rest h = refl
operator_back GreaterOrEqual rest h = refl

-- an operator's text parts a number before it from what comes after it
pub operator_parts : (o : Operator) (rest : List ℕ) → Parts (operator_text o ++ rest)
operator_parts Multiply rest = record { digit = refl; fraction = refl }
operator_parts Add rest = record { digit = refl; fraction = refl }
operator_parts Subtract rest = record { digit = refl; fraction = refl }
operator_parts Equal rest = record { digit = refl; fraction = refl }
operator_parts NotEqual rest = record { digit = refl; fraction = refl }
operator_parts Less rest = record { digit = refl; fraction = refl }
operator_parts Greater rest = record { digit = refl; fraction = refl }
operator_parts LessOrEqual rest = record { digit = refl; fraction = refl }
operator_parts GreaterOrEqual rest = record { digit = refl; fraction = refl }
