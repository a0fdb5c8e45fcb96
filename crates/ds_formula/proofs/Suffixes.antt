-- What is after a token is an end of the text.
use Rattle.std.proofs.Common.{◌≡◌, ℕ, zero, suc, ◌+◌, ◌-◌, ◌*◌, ◌^◌, pos, Bool, true, false, cond, leb, eqb, ◌&&◌, List, [], ◌∷◌, ◌++◌, drop, length, length-append, append_assoc, Option, Some, None, Result, Ok, Err, refl, sym, ap, subst, ◌∙◌, arith}
use Rattle.std.specs.Char.{is_ascii_digit, is_ascii_alphabetic, to_ascii_uppercase}
use Rattle.ds_formula.specs.declared.cells.Shape.{Shape}
use Rattle.ds_formula.specs.declared.cells.Cell.{Cell}
use Rattle.ds_formula.specs.declared.content.Sign.TheVariants.{Plus, Minus}
use Rattle.ds_formula.specs.declared.content.Operator.{Operator}
use Rattle.ds_formula.specs.declared.content.Operator.TheVariants.{NotEqual, Less, Greater, LessOrEqual, GreaterOrEqual}
use Rattle.ds_formula.specs.declared.content.Function.{Function}
use Rattle.ds_formula.specs.declared.fault.FaultKind.TheVariants.{NotWhole, NumberTooLarge}
use Rattle.ds_formula.specs.declared.tokens.Stop.{Stop}
use Rattle.ds_formula.specs.declared.tokens.Leaf.{Leaf}
use Rattle.ds_formula.specs.declared.tokens.Leaf.TheVariants.{Number}
use Rattle.ds_formula.specs.declared.tokens.Lead.{Lead}
use Rattle.ds_formula.specs.declared.tokens.Lead.TheVariants as leads
use Rattle.ds_formula.specs.declared.tokens.Follow.{Follow}
use Rattle.ds_formula.specs.declared.tokens.Follow.TheVariants.{Infix, Close, Semicolon, End}
use Rattle.ds_formula.specs.Bytes.{Read, ◌>>=◌, stop_at, unexpected_stop, begins, is_space, skipped, number_from, goes_on_as_fraction, number_at, byte_at}
use Rattle.ds_formula.specs.References.{without_dollar, letters_from, letters_at, row_at, cell_of, corner_at, inside_sheet, both_inside, behind_corner, reference_at}
use Rattle.ds_formula.specs.Functions.{Scope, function_named, takes}
use Rattle.ds_formula.specs.Tokens.{word_length, word_at, known, name_at, lead_of, lead_at, after_less, after_greater, follow_token, found, follow_of, follow_at}
use Rattle.ds_formula.specs.Turns.{Bracket, Group, Call, Due, AnOperand, FirstArgument, ItsBracket, AnOperator, Turn, Goes, Stops, Ends, wrong_arguments, by_lead, by_bracket, by_follow, closed, turn, Walk, stay, step}
use Rattle.ds_formula.specs.Grammar.{behind, without_equals, or_else, expression_behind, expression_of}
use Rattle.ds_formula.proofs.Formed.{either, bind_with}

-- the rest is an end of the text
abbrev pub Behind : List ℕ → List ℕ → Type 0
Behind text rest = (before : List ℕ) × (text ≡ before ++ rest)

itself : (text : List ℕ) → Behind text text
itself text = ([], refl)

more : (b : ℕ) (bs rest : List ℕ) → Behind bs rest → Behind (b ∷ bs) rest
more b bs rest h = (b ∷ h.0, ap (λ (x : List ℕ). b ∷ x) h.1)

-- an end of an end of a text is an end of the text
pub further : (text mid rest : List ℕ) → Behind text mid → Behind mid rest → Behind text rest
further text mid rest h k = (h.0 ++ k.0, h.1 ∙ ap (λ (x : List ℕ). h.0 ++ x) k.1 ∙ sym (append_assoc h.0 k.0 rest))

tail : (text : List ℕ) (b : ℕ) (bs : List ℕ) → Behind text (b ∷ bs) → Behind text bs
tail text b bs h = further text (b ∷ bs) bs h (more b bs bs (itself bs))

drop_before : (before rest : List ℕ) → drop (length before) (before ++ rest) ≡ rest
drop_before [] rest = refl
drop_before (b ∷ bs) rest = drop_before bs rest

-- an end of the text is what is left without the bytes before it
pub dropped : (text rest : List ℕ) → Behind text rest → drop (length text - length rest) text ≡ rest
dropped text rest h =
    let n : length text - length rest ≡ length h.0 = (let l = ap length h.1 in let a = length-append h.0 rest in omega (arith, l, a)) in
    ap (λ (k : ℕ). drop k text) n ∙ ap (drop (length h.0)) h.1 ∙ drop_before h.0 rest

-- what is after is an end of this
abbrev EndsIn : {A : Type 0} → List ℕ → Read A → Type 0
EndsIn text (Ok x) = Behind text x.1
EndsIn text (Err e) = Unit {0}

abbrev RestIn : List ℕ → Result (List ℕ) Stop → Type 0
RestIn text (Ok rest) = Behind text rest
RestIn text (Err e) = Unit {0}

-- what is after white space is an end of the text
pub skipped_behind : (text : List ℕ) → Behind text (skipped text)
skipped_behind [] = itself []
skipped_behind (b ∷ bs) = either (λ (x : List ℕ). Behind (b ∷ bs) x) (is_space b) (skipped bs) (b ∷ bs) (λ _. more b bs (skipped bs) (skipped_behind bs)) (λ _. itself (b ∷ bs))

byte_in : (text : List ℕ) (byte : ℕ) (rest : List ℕ) → Behind text rest → RestIn text (byte_at byte rest)
unfolding byte_at
byte_in text byte [] h = tt
byte_in text byte (b ∷ bs) h = either (RestIn text) (eqb b byte) (Ok bs) (Err (unexpected_stop (b ∷ bs))) (λ _. tail text b bs h) (λ _. tt)

digits_behind : (n : ℕ) (text : List ℕ) → Behind text (number_from n text).1
digits_behind n [] = itself []
digits_behind n (b ∷ bs) =
    let m = 10 * n + (b - 48) in
    either (λ (x : ℕ × List ℕ). Behind (b ∷ bs) x.1) (is_ascii_digit b) (number_from m bs) (n, b ∷ bs) (λ _. more b bs (number_from m bs).1 (digits_behind m bs)) (λ _. itself (b ∷ bs))

number_in : (text : List ℕ) (limit : ℕ) (rest : List ℕ) → Behind text rest → EndsIn text (number_at limit rest)
unfolding number_at
number_in text limit [] h = tt
number_in text limit (b ∷ bs) h =
    let read : ℕ × List ℕ = number_from 0 (b ∷ bs) in
    let large : Read ℕ = Err (stop_at NumberTooLarge (b ∷ bs)) in
    let broken : Read ℕ = Err (stop_at NotWhole read.1) in
    let inner : Read ℕ = cond (leb read.0 limit) (Ok read) large in
    either (EndsIn text) (is_ascii_digit b) (cond (goes_on_as_fraction read.1) broken inner) (Err (unexpected_stop (b ∷ bs)))
    (λ d. either (EndsIn text) (goes_on_as_fraction read.1) broken inner (λ _. tt)
    (λ _. either (EndsIn text) (leb read.0 limit) (Ok read) large (λ _. further text (b ∷ bs) read.1 h (digits_behind 0 (b ∷ bs))) (λ _. tt)))
    (λ _. tt)

dollar_behind : (text : List ℕ) → Behind text (without_dollar text)
dollar_behind [] = itself []
dollar_behind (b ∷ bs) = either (λ (x : List ℕ). Behind (b ∷ bs) x) (eqb b 36) bs (b ∷ bs) (λ _. more b bs bs (itself bs)) (λ _. itself (b ∷ bs))

letters_behind : (n : ℕ) (text : List ℕ) → Behind text (letters_from n text).1
letters_behind n [] = itself []
letters_behind n (b ∷ bs) =
    let m = 26 * n + (to_ascii_uppercase b - 64) in
    either (λ (x : ℕ × List ℕ). Behind (b ∷ bs) x.1) (is_ascii_alphabetic b) (letters_from m bs) (n, b ∷ bs) (λ _. more b bs (letters_from m bs).1 (letters_behind m bs)) (λ _. itself (b ∷ bs))

letters_in : (text rest : List ℕ) → Behind text rest → EndsIn text (letters_at rest)
unfolding letters_at
letters_in text [] h = tt
letters_in text (b ∷ bs) h =
    either (EndsIn text) (is_ascii_alphabetic b) (Ok (letters_from 0 (b ∷ bs))) (Err (unexpected_stop (b ∷ bs))) (λ e. further text (b ∷ bs) (letters_from 0 (b ∷ bs)).1 h (letters_behind 0 (b ∷ bs))) (λ _. tt)

row_in : (text rest : List ℕ) → Behind text rest → EndsIn text (row_at rest)
unfolding row_at
row_in text [] h = tt
row_in text (b ∷ bs) h =
    either (EndsIn text) (leb 49 b && leb b 57) (Ok (number_from 0 (b ∷ bs))) (Err (unexpected_stop (b ∷ bs))) (λ e. further text (b ∷ bs) (number_from 0 (b ∷ bs)).1 h (digits_behind 0 (b ∷ bs))) (λ _. tt)

corner_in : (text : List ℕ) (s : Shape) (rest : List ℕ) → Behind text rest → EndsIn text (corner_at s rest)
unfolding corner_at
corner_in text s rest h =
    bind_with (RestIn text) (EndsIn text) (byte_at 46 rest) (λ dot. letters_at (without_dollar dot) >>= λ column. row_at (without_dollar column.1) >>= λ row. Ok (cell_of s column.0 row.0, row.1)) (byte_in text 46 rest h) (λ _. tt)
    (λ dot k. bind_with (EndsIn text) (EndsIn text) (letters_at (without_dollar dot)) (λ column. row_at (without_dollar column.1) >>= λ row. Ok (cell_of s column.0 row.0, row.1))
    (letters_in text (without_dollar dot) (further text dot (without_dollar dot) k (dollar_behind dot))) (λ _. tt)
    (λ column j. bind_with (EndsIn text) (EndsIn text) (row_at (without_dollar column.1)) (λ row. Ok (cell_of s column.0 row.0, row.1))
    (row_in text (without_dollar column.1) (further text column.1 (without_dollar column.1) j (dollar_behind column.1))) (λ _. tt) (λ row i. i)))

both_in : (text from : List ℕ) (one other : Option Cell) (rest : List ℕ) → Behind text rest → EndsIn text (both_inside from one other rest)
both_in text from (Some c) (Some d) rest h = h
both_in text from (Some c) None rest h = tt
both_in text from None other rest h = tt

inside_in : (text from : List ℕ) (one : Option Cell) (rest : List ℕ) → Behind text rest → EndsIn text (inside_sheet from one rest)
inside_in text from (Some c) rest h = h
inside_in text from None rest h = tt

drop_behind : (n : ℕ) (text : List ℕ) → Behind text (drop n text)
drop_behind zero text = itself text
drop_behind (suc n) [] = itself []
drop_behind (suc n) (b ∷ bs) = more b bs (drop n bs) (drop_behind n bs)

corner_rest_in : (text : List ℕ) (s : Shape) (from : List ℕ) (one : Option Cell) (rest : List ℕ) → Behind text rest → EndsIn text (behind_corner s from one rest)
corner_rest_in text s from one rest h =
    let pair : Read Leaf = corner_at s (drop 1 rest) >>= λ other. byte_at 93 other.1 >>= λ end. both_inside from one other.0 end in
    let alone : Read Leaf = byte_at 93 rest >>= λ end. inside_sheet from one end in
    either (EndsIn text) (begins 58 rest) pair alone
    (λ _. bind_with (EndsIn text) (EndsIn text) (corner_at s (drop 1 rest)) (λ other. byte_at 93 other.1 >>= λ end. both_inside from one other.0 end) (corner_in text s (drop 1 rest) (further text rest (drop 1 rest) h (drop_behind 1 rest))) (λ _. tt)
    (λ other k. bind_with (RestIn text) (EndsIn text) (byte_at 93 other.1) (λ end. both_inside from one other.0 end) (byte_in text 93 other.1 k) (λ _. tt) (λ end j. both_in text from one other.0 end j)))
    (λ _. bind_with (RestIn text) (EndsIn text) (byte_at 93 rest) (λ end. inside_sheet from one end) (byte_in text 93 rest h) (λ _. tt) (λ end j. inside_in text from one end j))

reference_in : (text : List ℕ) (s : Shape) (rest : List ℕ) → Behind text rest → EndsIn text (reference_at s rest)
unfolding reference_at
reference_in text s rest h =
    bind_with (RestIn text) (EndsIn text) (byte_at 91 rest) (λ bracket. corner_at s bracket >>= λ one. behind_corner s rest one.0 one.1) (byte_in text 91 rest h) (λ _. tt)
    (λ bracket k. bind_with (EndsIn text) (EndsIn text) (corner_at s bracket) (λ one. behind_corner s rest one.0 one.1) (corner_in text s bracket k) (λ _. tt) (λ one j. corner_rest_in text s rest one.0 one.1 j))

known_in : (text from : List ℕ) (f : Option Function) (rest : List ℕ) → Behind text rest → EndsIn text (known from f rest)
known_in text from (Some f) rest h = h
known_in text from None rest h = tt

name_in : (gs : List Function) (text rest : List ℕ) → Behind text rest → EndsIn text (name_at gs rest)
unfolding name_at
name_in gs text rest h = known_in text rest (function_named gs (word_at rest)) (drop (word_length rest) rest) (further text rest (drop (word_length rest) rest) h (drop_behind (word_length rest) rest))

lead_of_in : (whole : List ℕ) (s : Scope) (text : List ℕ) → Behind whole text → EndsIn whole (lead_of s text)
unfolding lead_of
lead_of_in whole s [] h = tt
lead_of_in whole s (b ∷ bs) h =
    let end : Behind whole bs = tail whole b bs h in
    let text = b ∷ bs in
    let wrong : Read Lead = Err (unexpected_stop text) in
    let by_letter : Read Lead = cond (is_ascii_alphabetic b) (name_at s.functions text) wrong in
    let by_digit : Read Lead = cond (is_ascii_digit b) (number_at (2 ^ 63 - 1) text >>= λ x. Ok (leads.Leaf (Number (pos x.0)), x.1)) by_letter in
    let by_reference : Read Lead = cond (eqb b 91) (reference_at s.shape text >>= λ x. Ok (leads.Leaf x.0, x.1)) by_digit in
    let by_minus : Read Lead = cond (eqb b 45) (Ok (leads.Prefix Minus, bs)) by_reference in
    let by_plus : Read Lead = cond (eqb b 43) (Ok (leads.Prefix Plus, bs)) by_minus in
    either (EndsIn whole) (eqb b 40) (Ok (leads.Open, bs)) by_plus (λ _. end)
    (λ _. either (EndsIn whole) (eqb b 43) (Ok (leads.Prefix Plus, bs)) by_minus (λ _. end)
    (λ _. either (EndsIn whole) (eqb b 45) (Ok (leads.Prefix Minus, bs)) by_reference (λ _. end)
    (λ _. either (EndsIn whole) (eqb b 91) (reference_at s.shape text >>= λ x. Ok (leads.Leaf x.0, x.1)) by_digit
    (λ _. bind_with (EndsIn whole) (EndsIn whole) (reference_at s.shape text) (λ x. Ok (leads.Leaf x.0, x.1)) (reference_in whole s.shape text h) (λ _. tt) (λ x k. k))
    (λ _. either (EndsIn whole) (is_ascii_digit b) (number_at (2 ^ 63 - 1) text >>= λ x. Ok (leads.Leaf (Number (pos x.0)), x.1)) by_letter
    (λ _. bind_with (EndsIn whole) (EndsIn whole) (number_at (2 ^ 63 - 1) text) (λ x. Ok (leads.Leaf (Number (pos x.0)), x.1)) (number_in whole (2 ^ 63 - 1) text h) (λ _. tt) (λ x k. k))
    (λ _. either (EndsIn whole) (is_ascii_alphabetic b) (name_at s.functions text) wrong (λ e. name_in s.functions whole text h) (λ _. tt))))))

lead_in : (s : Scope) (text : List ℕ) → EndsIn text (lead_at s text)
unfolding lead_at
lead_in s text = lead_of_in text s (skipped text) (skipped_behind text)

-- ---- after an operand

abbrev SomeIn : List ℕ → Option (Follow × List ℕ) → Type 0
SomeIn text (Some x) = Behind text x.1
SomeIn text None = Unit {0}

less_behind : (bs : List ℕ) → Behind bs (after_less bs).1
less_behind [] = itself []
less_behind (b ∷ bs) =
    let one = more b bs bs (itself bs) in
    either (λ (x : Operator × List ℕ). Behind (b ∷ bs) x.1) (eqb b 62) (NotEqual, bs) (cond (eqb b 61) (LessOrEqual, bs) (Less, b ∷ bs)) (λ _. one)
    (λ _. either (λ (x : Operator × List ℕ). Behind (b ∷ bs) x.1) (eqb b 61) (LessOrEqual, bs) (Less, b ∷ bs) (λ _. one) (λ _. itself (b ∷ bs)))

greater_behind : (bs : List ℕ) → Behind bs (after_greater bs).1
greater_behind [] = itself []
greater_behind (b ∷ bs) =
    either (λ (x : Operator × List ℕ). Behind (b ∷ bs) x.1) (eqb b 61) (GreaterOrEqual, bs) (Greater, b ∷ bs) (λ _. more b bs bs (itself bs)) (λ _. itself (b ∷ bs))

pick : (text : List ℕ) (t : Bool) (x y : Option (Follow × List ℕ)) → SomeIn text x → SomeIn text y → SomeIn text (cond t x y)
pick text true x y p q = p
pick text false x y p q = q

token_in : (text : List ℕ) (b : ℕ) (bs : List ℕ) → Behind text bs → SomeIn text (follow_token b bs)
token_in text b bs h =
    pick text (eqb b 41) _ _ h
    (pick text (eqb b 59) _ _ h
    (pick text (eqb b 42) _ _ h
    (pick text (eqb b 43) _ _ h
    (pick text (eqb b 45) _ _ h
    (pick text (eqb b 61) _ _ h
    (pick text (eqb b 60) _ _ (further text bs (after_less bs).1 h (less_behind bs))
    (pick text (eqb b 62) _ _ (further text bs (after_greater bs).1 h (greater_behind bs)) tt)))))))

found_in : (text from : List ℕ) (x : Option (Follow × List ℕ)) → SomeIn text x → EndsIn text (found from x)
found_in text from (Some x) h = h
found_in text from None h = tt

follow_of_in : (text rest : List ℕ) → Behind text rest → EndsIn text (follow_of rest)
unfolding follow_of
follow_of_in text [] h = h
follow_of_in text (b ∷ bs) h = found_in text (b ∷ bs) (follow_token b bs) (token_in text b bs (tail text b bs h))

follow_in : (text : List ℕ) → EndsIn text (follow_at text)
unfolding follow_at
follow_in text = follow_of_in text (skipped text) (skipped_behind text)

-- ---- turns and walks

abbrev left_by : Turn → List ℕ
left_by (Goes e j next) = next
left_by (Stops s) = []
left_by Ends = []

-- a turn that goes on leaves an end of the text
abbrev TurnIn : List ℕ → Turn → Type 0
TurnIn text (Goes e j next) = Behind text next
TurnIn text (Stops s) = Unit {0}
TurnIn text Ends = Unit {0}

by_lead_in : (text : List ℕ) (i : List Bracket) (x : Read Lead) → EndsIn text x → TurnIn text (by_lead i x)
by_lead_in text i (Ok (leads.Leaf l, rest)) h = h
by_lead_in text i (Ok (leads.Prefix s, rest)) h = h
by_lead_in text i (Ok (leads.Open, rest)) h = h
by_lead_in text i (Ok (leads.Name f left, rest)) h = h
by_lead_in text i (Err s) h = tt

by_bracket_in : (text : List ℕ) (f : Function) (name : ℕ) (i : List Bracket) (x : Result (List ℕ) Stop) → RestIn text x → TurnIn text (by_bracket f name i x)
by_bracket_in text f name i (Ok rest) h = h
by_bracket_in text f name i (Err s) h = tt

closed_in : (text : List ℕ) (i : List Bracket) (rest : List ℕ) → Behind text rest → TurnIn text (closed i text rest)
closed_in text [] rest h = tt
closed_in text (Group ∷ i) rest h = h
closed_in text (Call f n name ∷ i) rest h = either (TurnIn text) (takes f n) (Goes AnOperator i rest) (wrong_arguments name) (λ _. h) (λ _. tt)

by_follow_in : (text : List ℕ) (i : List Bracket) (x : Read Follow) → EndsIn text x → TurnIn text (by_follow i text x)
by_follow_in text i (Ok (Infix o, rest)) h = h
by_follow_in text i (Ok (Close, rest)) h = closed_in text i rest h
by_follow_in text [] (Ok (Semicolon, rest)) h = tt
by_follow_in text (Group ∷ i) (Ok (Semicolon, rest)) h = tt
by_follow_in text (Call f n name ∷ i) (Ok (Semicolon, rest)) h = h
by_follow_in text [] (Ok (End, rest)) h = tt
by_follow_in text (b ∷ i) (Ok (End, rest)) h = tt
by_follow_in text i (Err s) h = tt

turn_in : (s : Scope) (d : Due) (i : List Bracket) (text : List ℕ) → TurnIn text (turn s d i text)
turn_in s AnOperand i text = by_lead_in text i (lead_at s text) (lead_in s text)
turn_in s (FirstArgument name) i text =
    either (TurnIn text) (begins 41 (skipped text)) (wrong_arguments name) (by_lead i (lead_at s text)) (λ _. tt) (λ _. by_lead_in text i (lead_at s text) (lead_in s text))
turn_in s (ItsBracket f name) i text = by_bracket_in text f name i (byte_at 40 (skipped text)) (byte_in text 40 (skipped text) (skipped_behind text))
turn_in s AnOperator i text = by_follow_in text i (follow_at text) (follow_in text)

-- what is after the tokens of a walk is an end of its text
pub walk_in : {s : Scope} {d e : Due} {i j : List Bracket} {text rest : List ℕ} → Walk s d i text e j rest → Behind text rest
walk_in {text = text} stay = itself text
walk_in {s} {d = d} {i = i} {text = text} {rest = rest} (step {next = next} h v) = further text next rest (subst (TurnIn text) h (turn_in s d i text)) (walk_in v)

-- ---- the expression of a formula

abbrev BodyIn : List ℕ → Option (List ℕ) → Type 0
BodyIn text (Some x) = Behind text x
BodyIn text None = Unit {0}

behind_in : (ps text : List ℕ) → BodyIn text (behind ps text)
behind_in [] text = itself text
behind_in (p ∷ ps) [] = tt
behind_in (p ∷ ps) (b ∷ bs) = either (BodyIn (b ∷ bs)) (eqb b p) (behind ps bs) None (λ _. one_more (behind ps bs) (behind_in ps bs)) (λ _. tt)
  where
    one_more : (x : Option (List ℕ)) → BodyIn bs x → BodyIn (b ∷ bs) x
    one_more (Some x) h = more b bs x h
    one_more None h = tt

equals_behind : (text : List ℕ) → Behind text (without_equals text)
equals_behind [] = itself []
equals_behind (b ∷ bs) = either (λ (x : List ℕ). Behind (b ∷ bs) x) (eqb b 61) bs (b ∷ bs) (λ _. more b bs bs (itself bs)) (λ _. itself (b ∷ bs))

or_in : (text : List ℕ) (x y : Option (List ℕ)) → BodyIn text x → BodyIn text y → BodyIn text (or_else x y)
or_in text (Some x) y h k = h
or_in text None y h k = k

skips_in : (text : List ℕ) (x : Option (List ℕ)) → BodyIn text x → BodyIn text (expression_behind x)
skips_in text (Some x) h = further text x (without_equals x) h (equals_behind x)
skips_in text None h = tt

body_in : (text : List ℕ) → BodyIn text (expression_of text)
unfolding expression_of
body_in text = skips_in text _ (or_in text _ _ (behind_in (61 ∷ []) text) (behind_in (111 ∷ 102 ∷ 58 ∷ 61 ∷ []) text))

-- the expression of a formula is an end of its text
pub body_behind : (text body : List ℕ) → expression_of text ≡ Some body → Behind text body
body_behind text body e = subst (BodyIn text) e (body_in text)
