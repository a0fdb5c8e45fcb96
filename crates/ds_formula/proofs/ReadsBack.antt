-- The text of a content that was read reads back as that content.
use Rattle.std.proofs.Common.{◌≡◌, ℕ, ℤ, pos, negsuc, neg_ℤ, zero, suc, ◌-◌, ◌^◌, ◌<◌, ◌≤◌, Bool, false, cond, eqb, List, [], ◌∷◌, length, drop, Option, Some, None, Result, Ok, Err, refl, sym, ap, subst, ◌∙◌, arith}
use Rattle.std.proofs.lemmas.List.{append-nil}
use Rattle.std.specs.Fmt.{decimal, signed_decimal}
use Rattle.ds_formula.specs.declared.cells.Shape.{Shape}
use Rattle.ds_formula.specs.declared.tokens.Stop.{Stop}
use Rattle.ds_formula.specs.Plain.{PlainContent, Constant}
use Rattle.ds_formula.specs.Bytes.{Read, ◌>>=◌, begins, number_at}
use Rattle.ds_formula.specs.Grammar.{alone, whole_of, constant_of, behind, without_equals, or_else, expression_behind, expression_of, ReadsLong, blank, constant, computed}
use Rattle.ds_formula.specs.Texts.{text_of, content_text}
use Rattle.ds_formula.proofs.Formed.{NumberGood, number_good, bind_with, either, level_good, same_placing}
use Rattle.ds_formula.proofs.Digits.{unequal, decimal_starts, number_back}
use Rattle.ds_formula.proofs.Back.{end_back}
use Rattle.ds_formula.proofs.Writes.{text_leads, level_back}

-- ---- constants that were read are in range

abbrev WholeGood : ℕ → Result ℕ Stop → Type 0
WholeGood limit (Ok n) = n ≤ limit
WholeGood limit (Err e) = Unit {0}

alone_good : (limit n : ℕ) (rest : List ℕ) → n ≤ limit → WholeGood limit (alone n rest)
alone_good limit n [] h = h
alone_good limit n (b ∷ bs) h = tt

whole_good : (limit : ℕ) (text : List ℕ) → WholeGood limit (whole_of limit text)
unfolding whole_of
whole_good limit text = bind_with (NumberGood limit) (WholeGood limit) (number_at limit text) (λ x. alone x.0 x.1) (number_good limit text) (λ _. tt) (λ x h. alone_good limit x.0 x.1 h)

-- from -2^63 to 2^63 - 1
abbrev pub InRange : ℤ → Type 0
InRange (pos n) = n ≤ 2 ^ 63 - 1
InRange (negsuc n) = n ≤ 2 ^ 63 - 1

abbrev ConstantGood : Result ℤ Stop → Type 0
ConstantGood (Ok z) = InRange z
ConstantGood (Err e) = Unit {0}

negative_good : (n : ℕ) → n ≤ 2 ^ 63 → InRange (neg_ℤ (pos n))
negative_good zero h = omega arith
negative_good (suc n) h = omega (arith, h)

abbrev negative : ℕ → Result ℤ Stop
negative n = Ok (neg_ℤ (pos n))

abbrev positive : ℕ → Result ℤ Stop
positive n = Ok (pos n)

constant_good : (text : List ℕ) → ConstantGood (constant_of text)
unfolding constant_of
constant_good text =
    let minus : Result ℤ Stop = whole_of (2 ^ 63) (drop 1 text) >>= negative in
    let plus : Result ℤ Stop = whole_of (2 ^ 63 - 1) (drop 1 text) >>= positive in
    let none : Result ℤ Stop = whole_of (2 ^ 63 - 1) text >>= positive in
    either ConstantGood (begins 45 text) minus (cond (begins 43 text) plus none)
    (λ _. bind_with (WholeGood (2 ^ 63)) ConstantGood (whole_of (2 ^ 63) (drop 1 text)) negative (whole_good (2 ^ 63) (drop 1 text)) (λ _. tt) (λ n h. negative_good n h))
    (λ _. either ConstantGood (begins 43 text) plus none
    (λ _. bind_with (WholeGood (2 ^ 63 - 1)) ConstantGood (whole_of (2 ^ 63 - 1) (drop 1 text)) positive (whole_good (2 ^ 63 - 1) (drop 1 text)) (λ _. tt) (λ n h. h))
    (λ _. bind_with (WholeGood (2 ^ 63 - 1)) ConstantGood (whole_of (2 ^ 63 - 1) text) positive (whole_good (2 ^ 63 - 1) text) (λ _. tt) (λ n h. h)))

-- a constant that was read is a number from -2^63 to 2^63 - 1
pub constant_range : (text : List ℕ) (z : ℤ) → constant_of text ≡ Ok z → InRange z
constant_range text z e = subst (λ (x : Result ℤ Stop). ConstantGood x) e (constant_good text)

-- ---- constants read back

abbrev stands_alone : ℕ × List ℕ → Result ℕ Stop
stands_alone x = alone x.0 x.1

whole_back : (limit n : ℕ) → n ≤ limit → n < 2 ^ 64 → whole_of limit (decimal n) ≡ Ok n
unfolding whole_of
whole_back limit n l h =
    ap (λ (x : List ℕ). number_at limit x >>= stands_alone) (sym (append-nil (decimal n))) ∙ ap (λ (x : Read ℕ). x >>= stands_alone) (number_back limit n [] l h (record { digit = refl; fraction = refl }))

-- the first byte of a number is no sign, and doesn't begin a formula
first_is : (n b : ℕ) → n < 2 ^ 64 → (48 ≤ b → b ≤ 57 → ⊥) → begins b (decimal n) ≡ false
first_is n b h k =
    let d = decimal_starts n h in
    ap (begins b) d.is ∙ unequal d.head b (λ e. k (omega (arith, e, d.low)) (omega (arith, e, d.high)))

positive_back : (n : ℕ) → n ≤ 2 ^ 63 - 1 → constant_of (decimal n) ≡ Ok (pos n)
unfolding constant_of
positive_back n l =
    let p = first_is n 45 (omega (arith, l)) (λ a b. omega (arith, a)) in
    let q = first_is n 43 (omega (arith, l)) (λ a b. omega (arith, a)) in
    let minus : Result ℤ Stop = whole_of (2 ^ 63) (drop 1 (decimal n)) >>= negative in
    let plus : Result ℤ Stop = whole_of (2 ^ 63 - 1) (drop 1 (decimal n)) >>= positive in
    let none : Result ℤ Stop = whole_of (2 ^ 63 - 1) (decimal n) >>= positive in
    ap (λ (t : Bool). cond t minus (cond (begins 43 (decimal n)) plus none)) p ∙ ap (λ (t : Bool). cond t plus none) q ∙ ap (λ (x : Result ℕ Stop). x >>= positive) (whole_back (2 ^ 63 - 1) n l (omega (arith, l)))

negative_back : (n : ℕ) → n ≤ 2 ^ 63 - 1 → constant_of (45 ∷ decimal (suc n)) ≡ Ok (negsuc n)
unfolding constant_of
negative_back n l = ap (λ (x : Result ℕ Stop). x >>= negative) (whole_back (2 ^ 63) (suc n) (omega (arith, l)) (omega (arith, l)))

behind_first : (p : ℕ) (ps bs : List ℕ) (b : ℕ) → eqb b p ≡ false → behind (p ∷ ps) (b ∷ bs) ≡ None
behind_first p ps bs b e = ap (λ (t : Bool). cond t (behind ps bs) None) e

no_expression : (b : ℕ) (bs : List ℕ) → eqb b 61 ≡ false → eqb b 111 ≡ false → expression_of (b ∷ bs) ≡ None
unfolding expression_of
no_expression b bs p q =
    ap (λ (x : Option (List ℕ)). expression_behind (or_else x (behind (111 ∷ 102 ∷ 58 ∷ 61 ∷ []) (b ∷ bs)))) (behind_first 61 [] bs b p) ∙ ap (λ (x : Option (List ℕ)). expression_behind x) (behind_first 111 (102 ∷ 58 ∷ 61 ∷ []) bs b q)

number_no_expression : (n : ℕ) → n < 2 ^ 64 → expression_of (decimal n) ≡ None
number_no_expression n h =
    let d = decimal_starts n h in
    ap expression_of d.is ∙ no_expression d.head d.tail (unequal d.head 61 (λ e. omega (arith, e, d.high))) (unequal d.head 111 (λ e. omega (arith, e, d.high)))

some_digits : (n : ℕ) → n < 2 ^ 64 → 0 < length (decimal n)
some_digits n h = let d = decimal_starts n h in omega (arith, ap length d.is)

constant_back : (s : Shape) (z : ℤ) → InRange z → ReadsLong s (signed_decimal z) (Constant z)
constant_back s (pos n) l = constant (decimal n) (pos n) (some_digits n (omega (arith, l))) (number_no_expression n (omega (arith, l))) (positive_back n l)
constant_back s (negsuc n) l = constant (45 ∷ decimal (suc n)) (negsuc n) (omega arith) (no_expression 45 (decimal (suc n)) refl refl) (negative_back n l)

-- ---- formulas read back

nothing_added : (text : List ℕ) → begins 61 text ≡ false → without_equals text ≡ text
nothing_added [] e = refl
nothing_added (b ∷ bs) e = ap (λ (t : Bool). cond t bs (b ∷ bs)) e

formula_text : (text : List ℕ) → begins 61 text ≡ false → expression_of (61 ∷ text) ≡ Some text
unfolding expression_of
formula_text text e = ap found (nothing_added text e)
  where
    found : List ℕ → Option (List ℕ)
    found x = Some x

-- the text of a content that was read has that content
pub reads_back : (s : Shape) (text : List ℕ) (p : PlainContent) → ReadsLong s text p → ReadsLong s (content_text p) p
reads_back s text p blank = blank
reads_back s text p (constant t z l n e) = constant_back s z (constant_range t z e)
reads_back s text p (computed t b f r n e m k) =
    let good = level_good e.2 in
    let v = level_back s f good.formed in
    let again = level_good v.1 in
    let leads = text_leads s f [] good.formed in
    let first : begins 61 (text_of f) ≡ false = ap (begins 61) (sym (append-nil (text_of f))) ∙ leads.no_equals in
    computed (61 ∷ text_of f) (text_of f) f v.0 (formula_text (text_of f) first) ([], [], v.1, end_back) (same_placing r v.0 (good.kinds ∙ sym again.kinds) m) k
