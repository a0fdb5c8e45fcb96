-- What is after a token is shorter than what the token stands before.
use Rattle.std.proofs.Common.{◌≡◌, ℕ, ◌+◌, ◌-◌, ◌*◌, ◌^◌, ◌<◌, ◌≤◌, pos, Bool, true, false, cond, leb, eqb, ◌&&◌, List, [], ◌∷◌, take, drop, length, Option, Some, None, Result, Ok, Err, refl, sym, ap, subst, arith}
use Rattle.std.proofs.lemmas.Bool.{leb-true}
use Rattle.std.proofs.lemmas.List.{length-drop}
use Rattle.std.specs.Char.{is_ascii_digit, is_ascii_alphabetic, to_ascii_uppercase}
use Rattle.ds_formula.specs.declared.cells.Shape.{Shape}
use Rattle.ds_formula.specs.declared.cells.Cell.{Cell}
use Rattle.ds_formula.specs.declared.content.Sign.TheVariants.{Plus, Minus}
use Rattle.ds_formula.specs.declared.content.Operator.{Operator}
use Rattle.ds_formula.specs.declared.content.Operator.TheVariants.{NotEqual, Less, Greater, LessOrEqual, GreaterOrEqual}
use Rattle.ds_formula.specs.declared.content.Function.{Function}
use Rattle.ds_formula.specs.declared.fault.FaultKind.TheVariants.{NotWhole, NumberTooLarge}
use Rattle.ds_formula.specs.declared.tokens.Stop.{Stop}
use Rattle.ds_formula.specs.declared.tokens.Leaf.{Leaf}
use Rattle.ds_formula.specs.declared.tokens.Leaf.TheVariants.{Number}
use Rattle.ds_formula.specs.declared.tokens.Lead.{Lead}
use Rattle.ds_formula.specs.declared.tokens.Lead.TheVariants as leads
use Rattle.ds_formula.specs.declared.tokens.Follow.{Follow}
use Rattle.ds_formula.specs.Bytes.{Read, ◌>>=◌, stop_at, unexpected_stop, begins, is_space, skipped, number_from, goes_on_as_fraction, number_at, byte_at}
use Rattle.ds_formula.specs.References.{without_dollar, letters_from, letters_at, row_at, cell_of, corner_at, inside_sheet, both_inside, behind_corner, reference_at}
use Rattle.ds_formula.specs.Functions.{Scope, function_named}
use Rattle.ds_formula.specs.Tokens.{is_name_byte, word_length, known, name_at, lead_of, lead_at, after_less, after_greater, follow_token, found, follow_of, follow_at}
use Rattle.ds_formula.proofs.Bytes.{from_shorter}
use Rattle.ds_formula.proofs.Digits.{is_digit}
use Rattle.ds_formula.proofs.Formed.{either, bind_with}

-- what is after is shorter than this
abbrev pub Below : {A : Type 0} → ℕ → Read A → Type 0
Below n (Ok x) = length x.1 < n
Below n (Err e) = Unit {0}

abbrev pub RestBelow : ℕ → Result (List ℕ) Stop → Type 0
RestBelow n (Ok rest) = length rest < n
RestBelow n (Err e) = Unit {0}

pub skipped_shorter : (text : List ℕ) → length (skipped text) ≤ length text
skipped_shorter [] = omega arith
skipped_shorter (b ∷ bs) =
    let more = skipped_shorter bs in
    either (λ (x : List ℕ). length x ≤ length (b ∷ bs)) (is_space b) (skipped bs) (b ∷ bs) (λ _. omega (arith, more)) (λ _. omega arith)

pub byte_below : (n byte : ℕ) (text : List ℕ) → length text ≤ n → RestBelow n (byte_at byte text)
unfolding byte_at
byte_below n byte [] h = tt
byte_below n byte (b ∷ bs) h = either (RestBelow n) (eqb b byte) (Ok bs) (Err (unexpected_stop (b ∷ bs))) (λ _. omega (arith, h)) (λ _. tt)

digit_first : (n m b : ℕ) (bs : List ℕ) → length (b ∷ bs) ≤ n → is_ascii_digit b ≡ true → length (number_from m (b ∷ bs)).1 < n
digit_first n m b bs h e =
    let more = from_shorter (10 * m + (b - 48)) bs in
    subst (λ (t : Bool). length (cond t (number_from (10 * m + (b - 48)) bs) (m, b ∷ bs)).1 < n) (sym e) (omega (arith, more, h))

number_below : (n limit : ℕ) (text : List ℕ) → length text ≤ n → Below n (number_at limit text)
unfolding number_at
number_below n limit [] h = tt
number_below n limit (b ∷ bs) h =
    let read : ℕ × List ℕ = number_from 0 (b ∷ bs) in
    let large : Read ℕ = Err (stop_at NumberTooLarge (b ∷ bs)) in
    let broken : Read ℕ = Err (stop_at NotWhole read.1) in
    let inner : Read ℕ = cond (leb read.0 limit) (Ok read) large in
    either (Below n) (is_ascii_digit b) (cond (goes_on_as_fraction read.1) broken inner) (Err (unexpected_stop (b ∷ bs)))
    (λ d. either (Below n) (goes_on_as_fraction read.1) broken inner (λ _. tt) (λ _. either (Below n) (leb read.0 limit) (Ok read) large (λ _. digit_first n 0 b bs h d) (λ _. tt)))
    (λ _. tt)

dollar_shorter : (text : List ℕ) → length (without_dollar text) ≤ length text
dollar_shorter [] = omega arith
dollar_shorter (b ∷ bs) = either (λ (x : List ℕ). length x ≤ length (b ∷ bs)) (eqb b 36) bs (b ∷ bs) (λ _. omega arith) (λ _. omega arith)

letters_shorter : (n : ℕ) (text : List ℕ) → length (letters_from n text).1 ≤ length text
letters_shorter n [] = omega arith
letters_shorter n (b ∷ bs) =
    let m = 26 * n + (to_ascii_uppercase b - 64) in
    let more = letters_shorter m bs in
    either (λ (x : ℕ × List ℕ). length x.1 ≤ length (b ∷ bs)) (is_ascii_alphabetic b) (letters_from m bs) (n, b ∷ bs) (λ _. omega (arith, more)) (λ _. omega arith)

letter_first : (n b : ℕ) (bs : List ℕ) → length (b ∷ bs) ≤ n → is_ascii_alphabetic b ≡ true → length (letters_from 0 (b ∷ bs)).1 < n
letter_first n b bs h e =
    let m = 26 * 0 + (to_ascii_uppercase b - 64) in
    let more = letters_shorter m bs in
    subst (λ (t : Bool). length (cond t (letters_from m bs) (0, b ∷ bs)).1 < n) (sym e) (omega (arith, more, h))

letters_below : (n : ℕ) (text : List ℕ) → length text ≤ n → Below n (letters_at text)
unfolding letters_at
letters_below n [] h = tt
letters_below n (b ∷ bs) h = either (Below n) (is_ascii_alphabetic b) (Ok (letters_from 0 (b ∷ bs))) (Err (unexpected_stop (b ∷ bs))) (λ e. letter_first n b bs h e) (λ _. tt)

both_true : (a b : Bool) → (a && b) ≡ true → (a ≡ true) × (b ≡ true)
both_true true true e = (refl, refl)
both_true true false e = absurd cc
both_true false b e = absurd cc

digit_of_row : (b : ℕ) → (leb 49 b && leb b 57) ≡ true → is_ascii_digit b ≡ true
digit_of_row b e =
    let p = both_true (leb 49 b) (leb b 57) e in
    is_digit b (omega (arith, leb-true 49 b p.0)) (leb-true b 57 p.1)

row_below : (n : ℕ) (text : List ℕ) → length text ≤ n → Below n (row_at text)
unfolding row_at
row_below n [] h = tt
row_below n (b ∷ bs) h =
    either (Below n) (leb 49 b && leb b 57) (Ok (number_from 0 (b ∷ bs))) (Err (unexpected_stop (b ∷ bs))) (λ e. digit_first n 0 b bs h (digit_of_row b e)) (λ _. tt)

corner_below : (n : ℕ) (s : Shape) (text : List ℕ) → length text ≤ n → Below n (corner_at s text)
unfolding corner_at
corner_below n s text h =
    bind_with (RestBelow n) (Below n) (byte_at 46 text) (λ dot. letters_at (without_dollar dot) >>= λ column. row_at (without_dollar column.1) >>= λ row. Ok (cell_of s column.0 row.0, row.1)) (byte_below n 46 text h) (λ _. tt)
    (λ dot k. let d = dollar_shorter dot in
    bind_with (Below n) (Below n) (letters_at (without_dollar dot)) (λ column. row_at (without_dollar column.1) >>= λ row. Ok (cell_of s column.0 row.0, row.1)) (letters_below n (without_dollar dot) (omega (arith, d, k))) (λ _. tt)
    (λ column j. let c = dollar_shorter column.1 in
    bind_with (Below n) (Below n) (row_at (without_dollar column.1)) (λ row. Ok (cell_of s column.0 row.0, row.1)) (row_below n (without_dollar column.1) (omega (arith, c, j))) (λ _. tt) (λ row i. i)))

both_below : (n : ℕ) (text : List ℕ) (one other : Option Cell) (rest : List ℕ) → length rest < n → Below n (both_inside text one other rest)
both_below n text (Some c) (Some d) rest h = h
both_below n text (Some c) None rest h = tt
both_below n text None other rest h = tt

inside_below : (n : ℕ) (text : List ℕ) (one : Option Cell) (rest : List ℕ) → length rest < n → Below n (inside_sheet text one rest)
inside_below n text (Some c) rest h = h
inside_below n text None rest h = tt

behind_below : (n : ℕ) (s : Shape) (text : List ℕ) (one : Option Cell) (rest : List ℕ) → length rest ≤ n → Below n (behind_corner s text one rest)
behind_below n s text one rest h =
    let pair : Read Leaf = corner_at s (drop 1 rest) >>= λ other. byte_at 93 other.1 >>= λ end. both_inside text one other.0 end in
    let alone : Read Leaf = byte_at 93 rest >>= λ end. inside_sheet text one end in
    let d = length-drop 1 rest in
    either (Below n) (begins 58 rest) pair alone
    (λ _. bind_with (Below n) (Below n) (corner_at s (drop 1 rest)) (λ other. byte_at 93 other.1 >>= λ end. both_inside text one other.0 end) (corner_below n s (drop 1 rest) (omega (arith, d, h))) (λ _. tt)
    (λ other k. bind_with (RestBelow n) (Below n) (byte_at 93 other.1) (λ end. both_inside text one other.0 end) (byte_below n 93 other.1 (omega (arith, k))) (λ _. tt) (λ end j. both_below n text one other.0 end j)))
    (λ _. bind_with (RestBelow n) (Below n) (byte_at 93 rest) (λ end. inside_sheet text one end) (byte_below n 93 rest h) (λ _. tt) (λ end j. inside_below n text one end j))

reference_below : (n : ℕ) (s : Shape) (text : List ℕ) → length text ≤ n → Below n (reference_at s text)
unfolding reference_at
reference_below n s text h =
    bind_with (RestBelow n) (Below n) (byte_at 91 text) (λ bracket. corner_at s bracket >>= λ one. behind_corner s text one.0 one.1) (byte_below n 91 text h) (λ _. tt)
    (λ bracket k. bind_with (Below n) (Below n) (corner_at s bracket) (λ one. behind_corner s text one.0 one.1) (corner_below n s bracket (omega (arith, k))) (λ _. tt) (λ one j. behind_below n s text one.0 one.1 (omega (arith, j))))

known_below : (n : ℕ) (text : List ℕ) (f : Option Function) (rest : List ℕ) → length rest < n → Below n (known text f rest)
known_below n text (Some f) rest h = h
known_below n text None rest h = tt

name_byte : (b : ℕ) → is_ascii_alphabetic b ≡ true → is_name_byte b ≡ true
name_byte b e = rw e refl

name_below : (gs : List Function) (n b : ℕ) (bs : List ℕ) → length (b ∷ bs) ≤ n → is_ascii_alphabetic b ≡ true → Below n (name_at gs (b ∷ bs))
unfolding name_at
name_below gs n b bs h e =
    let w : word_length (b ∷ bs) ≡ 1 + word_length bs = ap (λ (t : Bool). cond t (1 + word_length bs) 0) (name_byte b e) in
    let d = length-drop (word_length (b ∷ bs)) (b ∷ bs) in
    known_below n (b ∷ bs) (function_named gs (take (word_length (b ∷ bs)) (b ∷ bs))) (drop (word_length (b ∷ bs)) (b ∷ bs)) (omega (arith, w, d, h))

lead_of_below : (n : ℕ) (s : Scope) (text : List ℕ) → length text ≤ n → Below n (lead_of s text)
unfolding lead_of
lead_of_below n s [] h = tt
lead_of_below n s (b ∷ bs) h =
    let less : length bs < n = omega (arith, h) in
    let text = b ∷ bs in
    let wrong : Read Lead = Err (unexpected_stop text) in
    let by_letter : Read Lead = cond (is_ascii_alphabetic b) (name_at s.functions text) wrong in
    let by_digit : Read Lead = cond (is_ascii_digit b) (number_at (2 ^ 63 - 1) text >>= λ x. Ok (leads.Leaf (Number (pos x.0)), x.1)) by_letter in
    let by_bracket : Read Lead = cond (eqb b 91) (reference_at s.shape text >>= λ x. Ok (leads.Leaf x.0, x.1)) by_digit in
    let by_minus : Read Lead = cond (eqb b 45) (Ok (leads.Prefix Minus, bs)) by_bracket in
    let by_plus : Read Lead = cond (eqb b 43) (Ok (leads.Prefix Plus, bs)) by_minus in
    either (Below n) (eqb b 40) (Ok (leads.Open, bs)) by_plus (λ _. less)
    (λ _. either (Below n) (eqb b 43) (Ok (leads.Prefix Plus, bs)) by_minus (λ _. less)
    (λ _. either (Below n) (eqb b 45) (Ok (leads.Prefix Minus, bs)) by_bracket (λ _. less)
    (λ _. either (Below n) (eqb b 91) (reference_at s.shape text >>= λ x. Ok (leads.Leaf x.0, x.1)) by_digit
    (λ _. bind_with (Below n) (Below n) (reference_at s.shape text) (λ x. Ok (leads.Leaf x.0, x.1)) (reference_below n s.shape text h) (λ _. tt) (λ x k. k))
    (λ _. either (Below n) (is_ascii_digit b) (number_at (2 ^ 63 - 1) text >>= λ x. Ok (leads.Leaf (Number (pos x.0)), x.1)) by_letter
    (λ _. bind_with (Below n) (Below n) (number_at (2 ^ 63 - 1) text) (λ x. Ok (leads.Leaf (Number (pos x.0)), x.1)) (number_below n (2 ^ 63 - 1) text h) (λ _. tt) (λ x k. k))
    (λ _. either (Below n) (is_ascii_alphabetic b) (name_at s.functions text) wrong (λ e. name_below s.functions n b bs h e) (λ _. tt))))))

lead_below : (s : Scope) (text : List ℕ) → Below (length text) (lead_at s text)
unfolding lead_at
lead_below s text = lead_of_below (length text) s (skipped text) (skipped_shorter text)

-- the token where an operand is due is not empty
pub lead_shorter : (s : Scope) (text : List ℕ) (t : Lead) (rest : List ℕ) → Ok (t, rest) ≡ lead_at s text → length rest < length text
lead_shorter s text t rest e = subst (Below (length text)) (sym e) (lead_below s text)

-- ---- after an operand

abbrev NoLonger : {A : Type 0} → ℕ → Read A → Type 0
NoLonger n (Ok x) = length x.1 ≤ n
NoLonger n (Err e) = Unit {0}

abbrev Some_no_longer : ℕ → Option (Follow × List ℕ) → Type 0
Some_no_longer n (Some x) = length x.1 ≤ n
Some_no_longer n None = Unit {0}

less_no_longer : (bs : List ℕ) → length (after_less bs).1 ≤ length bs
less_no_longer [] = omega arith
less_no_longer (b ∷ bs) =
    either (λ (x : Operator × List ℕ). length x.1 ≤ length (b ∷ bs)) (eqb b 62) (NotEqual, bs) (cond (eqb b 61) (LessOrEqual, bs) (Less, b ∷ bs)) (λ _. omega arith)
    (λ _. either (λ (x : Operator × List ℕ). length x.1 ≤ length (b ∷ bs)) (eqb b 61) (LessOrEqual, bs) (Less, b ∷ bs) (λ _. omega arith) (λ _. omega arith))

greater_no_longer : (bs : List ℕ) → length (after_greater bs).1 ≤ length bs
greater_no_longer [] = omega arith
greater_no_longer (b ∷ bs) = either (λ (x : Operator × List ℕ). length x.1 ≤ length (b ∷ bs)) (eqb b 61) (GreaterOrEqual, bs) (Greater, b ∷ bs) (λ _. omega arith) (λ _. omega arith)

-- a token that is what the test says, or one of the others
pick : (n : ℕ) (t : Bool) (x y : Option (Follow × List ℕ)) → Some_no_longer n x → Some_no_longer n y → Some_no_longer n (cond t x y)
pick n true x y p q = p
pick n false x y p q = q

token_no_longer : (n b : ℕ) (bs : List ℕ) → length bs ≤ n → Some_no_longer n (follow_token b bs)
token_no_longer n b bs h =
    let less = less_no_longer bs in
    let greater = greater_no_longer bs in
    pick n (eqb b 41) _ _ h
    (pick n (eqb b 59) _ _ h
    (pick n (eqb b 42) _ _ h
    (pick n (eqb b 43) _ _ h
    (pick n (eqb b 45) _ _ h
    (pick n (eqb b 61) _ _ h
    (pick n (eqb b 60) _ _ (omega (arith, less, h))
    (pick n (eqb b 62) _ _ (omega (arith, greater, h)) tt)))))))

found_no_longer : (n : ℕ) (text : List ℕ) (x : Option (Follow × List ℕ)) → Some_no_longer n x → NoLonger n (found text x)
found_no_longer n text (Some x) h = h
found_no_longer n text None h = tt

follow_of_no_longer : (n : ℕ) (text : List ℕ) → length text ≤ n → NoLonger n (follow_of text)
unfolding follow_of
follow_of_no_longer n [] h = omega arith
follow_of_no_longer n (b ∷ bs) h = found_no_longer n (b ∷ bs) (follow_token b bs) (token_no_longer n b bs (omega (arith, h)))

follow_no_longer : (text : List ℕ) → NoLonger (length text) (follow_at text)
unfolding follow_at
follow_no_longer text = follow_of_no_longer (length text) (skipped text) (skipped_shorter text)

-- what is after the token there is no longer
pub follow_shorter : (text : List ℕ) (t : Follow) (rest : List ℕ) → follow_at text ≡ Ok (t, rest) → length rest ≤ length text
follow_shorter text t rest e = subst (NoLonger (length text)) e (follow_no_longer text)

bracket_below : (text : List ℕ) → RestBelow (length text) (byte_at 40 (skipped text))
bracket_below text = byte_below (length text) 40 (skipped text) (skipped_shorter text)

-- the bracket of a call is not empty
pub bracket_shorter : (text rest : List ℕ) → Ok rest ≡ byte_at 40 (skipped text) → length rest < length text
bracket_shorter text rest e = subst (RestBelow (length text)) (sym e) (bracket_below text)
