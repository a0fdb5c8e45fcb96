-- What the steps of the code give: its private functions' contracts cite these words, the public ones' do not.
use Rattle.std.specs.Prelude.{ℕ, ◌-◌, ◌%◌, ℤ, pos, negsuc, neg_ℤ, unsigned_abs, Bool, true, false, not, ◌==◌, if◌then◌else◌, Option, Some, None, Result, Ok, Err}
use Rattle.std.specs.Ordering.{int_eq}
use Rattle.ds_eval.specs.declared.value.Value.{Value}
use Rattle.ds_eval.specs.declared.value.Value.TheVariants.{Blank, Number, DivZero, Num, Circular}

-- an exact result, or `#NUM!` where it was out of range
abbrev pub exactly : Option ℤ → Value
exactly (Some z) = Number z
exactly None = Num

-- a value used as a number, a blank being 0, or its error
abbrev pub number_or_error : Value → Result ℤ Value
number_or_error Blank = Ok (pos 0)
number_or_error (Number z) = Ok z
number_or_error DivZero = Err DivZero
number_or_error Num = Err Num
number_or_error Circular = Err Circular

-- whether a condition holds, or its error
abbrev pub is_chosen : Value → Result Bool Value
is_chosen Blank = Ok false
is_chosen (Number z) = Ok (not (int_eq z (pos 0)))
is_chosen DivZero = Err DivZero
is_chosen Num = Err Num
is_chosen Circular = Err Circular

-- ---- the remainder, by size and sign

-- whether a number is below 0
abbrev pub is_negative : ℤ → Bool
is_negative (pos n) = false
is_negative (negsuc n) = true

-- the number of this size, below 0 or not
abbrev pub with_sign : Bool → ℕ → ℤ
with_sign true n = neg_ℤ (pos n)
with_sign false n = pos n

-- the size of what is left by floor division, where the sizes leave this rest: the rest where the signs are the same,
-- else what it lacks
abbrev pub size_of_rest : Bool → ℕ → ℕ → ℕ
size_of_rest true rest size = rest
size_of_rest false rest size = if rest == 0 then 0 else size - rest

-- whether two answers are the same: both hold, or neither
abbrev pub same : Bool → Bool → Bool
same true b = b
same false b = not b

-- what is left of a, with the sign of b, by sizes and signs
abbrev pub floor_mod : ℤ → ℤ → ℤ
floor_mod a b = with_sign (is_negative b) (size_of_rest (same (is_negative a) (is_negative b)) (unsigned_abs a % unsigned_abs b) (unsigned_abs b))
