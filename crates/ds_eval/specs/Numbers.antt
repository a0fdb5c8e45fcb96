-- Values, and exact arithmetic on them.
use Rattle.std.specs.Prelude.{ℕ, suc, ◌/◌, ◌^◌, ℤ, pos, negsuc, ◌+ℤ◌, ◌-ℤ◌, ◌*ℤ◌, neg_ℤ, int_div, int_lt, Bool, true, false, not, ◌&&◌, ◌||◌, nat_lt, if◌then◌else◌, codes, List, [], ◌∷◌, fold, Option, Some, None}
use Rattle.std.specs.Ordering.{int_eq}
use Rattle.std.specs.Int.{int_min, int_max}
use Rattle.std.specs.Fmt.{signed_decimal}
use Rattle.ds_formula.specs.declared.content.Sign.{Sign}
use Rattle.ds_formula.specs.declared.content.Sign.TheVariants as signs
use Rattle.ds_formula.specs.declared.content.Operator.{Operator}
use Rattle.ds_formula.specs.declared.content.Operator.TheVariants as operators
use Rattle.ds_eval.specs.declared.value.Value.{Value}
use Rattle.ds_eval.specs.declared.value.Value.TheVariants.{Blank, Number, DivZero, Num, Circular}

-- what is printed of a value
abbrev pub value_text : Value → List ℕ
value_text Blank = []
value_text (Number z) = signed_decimal z
value_text DivZero = codes "#DIV/0!"
value_text Num = codes "#NUM!"
value_text Circular = codes "Err:522"

-- ---- results

-- whether a number is one from -2^63 to 2^63-1
abbrev pub is_i64 : ℤ → Bool
is_i64 (pos n) = nat_lt n (2 ^ 63)
is_i64 (negsuc n) = nat_lt n (2 ^ 63)

-- a number as a result: `#NUM!` where it is out of range
abbrev pub in_range : ℤ → Value
in_range z = if is_i64 z then Number z else Num

-- what a comparison gives: 1 or 0
abbrev pub truth : Bool → Value
truth b = Number (if b then pos 1 else pos 0)

-- ---- what the operators and functions do with numbers

-- a sign before a number (OpenFormula 6.4.14 and 6.4.15)
abbrev pub signed : Sign → ℤ → Value
signed signs.Plus a = Number a
signed signs.Minus a = in_range (neg_ℤ a)

-- an operator between two numbers (OpenFormula 6.4.2 to 6.4.4 and 6.4.7 to 6.4.9)
abbrev pub joined : Operator → ℤ → ℤ → Value
joined operators.Multiply a b = in_range (a *ℤ b)
joined operators.Add a b = in_range (a +ℤ b)
joined operators.Subtract a b = in_range (a -ℤ b)
joined operators.Equal a b = truth (int_eq a b)
joined operators.NotEqual a b = truth (not (int_eq a b))
joined operators.Less a b = truth (int_lt a b)
joined operators.Greater a b = truth (int_lt b a)
joined operators.LessOrEqual a b = truth (not (int_lt b a))
joined operators.GreaterOrEqual a b = truth (not (int_lt a b))

-- ABS (OpenFormula 6.16.2): the number without its sign
abbrev pub absolute : ℤ → Value
absolute (pos n) = in_range (pos n)
absolute (negsuc n) = in_range (pos (suc n))

-- the whole number below a / d, or at it
abbrev pub floor_by : ℤ → ℕ → ℤ
floor_by (pos n) d = pos (n / d)
floor_by (negsuc n) d = negsuc (n / d)

-- the whole number below a / b, or at it
abbrev pub floor_div : ℤ → ℤ → ℤ
floor_div a (pos d) = floor_by a d
floor_div a (negsuc d) = floor_by (neg_ℤ a) (suc d)

-- what is left of a by floor division, with the sign of b
abbrev pub floor_rest : ℤ → ℤ → ℤ
floor_rest a b = a -ℤ b *ℤ floor_div a b

-- MOD (OpenFormula 6.16.42)
abbrev pub modulo : ℤ → ℤ → Value
modulo a b = if int_eq b (pos 0) then DivZero else Number (floor_rest a b)

-- QUOTIENT (OpenFormula 6.16.48): a / b, cut towards 0
abbrev pub quotient : ℤ → ℤ → Value
quotient a b = if int_eq b (pos 0) then DivZero else in_range (int_div a b)

-- SUM (OpenFormula 6.16.61): all numbers, added exactly
abbrev pub total : List ℤ → ℤ
total ns = fold ◌+ℤ◌ (pos 0) ns

-- MIN (OpenFormula 6.18.48): the least number, 0 where there is none
abbrev pub least : List ℤ → ℤ
least [] = pos 0
least (n ∷ ns) = fold int_min n ns

-- MAX (OpenFormula 6.18.45): the greatest number, 0 where there is none
abbrev pub greatest : List ℤ → ℤ
greatest [] = pos 0
greatest (n ∷ ns) = fold int_max n ns

-- a number as a condition: it holds where it is not 0
abbrev pub is_true : ℤ → Bool
is_true z = not (int_eq z (pos 0))

-- AND (OpenFormula 6.15.2): whether no number is 0, also where there is none
abbrev pub all_true : List ℤ → Bool
all_true [] = true
all_true (n ∷ ns) = is_true n && all_true ns

-- OR (OpenFormula 6.15.8): whether some number is not 0
abbrev pub some_true : List ℤ → Bool
some_true [] = false
some_true (n ∷ ns) = is_true n || some_true ns

-- NOT (OpenFormula 6.15.7): 1 for 0, else 0
abbrev pub negated : ℤ → Value
negated a = truth (int_eq a (pos 0))

-- ---- values as numbers, and the first error

-- a value used as a number (OpenFormula 6.3.5): a blank is 0, an error is the result
abbrev pub with_number : Value → (ℤ → Value) → Value
with_number Blank f = f (pos 0)
with_number (Number z) f = f z
with_number DivZero f = DivZero
with_number Num f = Num
with_number Circular f = Circular

-- two values used as numbers: the error of the first goes before that of the second
abbrev pub with_numbers : Value → Value → (ℤ → ℤ → Value) → Value
with_numbers a b f = with_number a (λ x. with_number b (f x))

-- the numbers among values: blanks are left out
abbrev pub numbers : List Value → List ℤ
numbers [] = []
numbers (Number z ∷ vs) = z ∷ numbers vs
numbers (v ∷ vs) = numbers vs

-- the first error among values
abbrev pub first_error : List Value → Option Value
first_error [] = None
first_error (Blank ∷ vs) = first_error vs
first_error (Number z ∷ vs) = first_error vs
first_error (v ∷ vs) = Some v

-- the error, where there is one, else the value
abbrev pub error_or : Option Value → Value → Value
error_or (Some e) v = e
error_or None v = v

-- many values used as numbers (OpenFormula 6.3.7), blanks left out: the first error is the result
abbrev pub with_all : List Value → (List ℤ → Value) → Value
with_all vs f = error_or (first_error vs) (f (numbers vs))
