-- A content as a list of marks, from which it is built again: by this a proof distinguishes contents.
use Rattle.std.specs.Prelude.{ℕ, zero, suc, ℤ, pos, ◌≡◌, List, [], ◌∷◌, refl}
use Rattle.std.specs.Coded.{Coded, code_by, coded×, coded_list, coded_ℕ, coded_ℤ}
use Rattle.ds_formula.specs.declared.content.Sign.{Sign}
use Rattle.ds_formula.specs.declared.content.Sign.TheVariants as signs
use Rattle.ds_formula.specs.declared.content.Operator.{Operator}
use Rattle.ds_formula.specs.declared.content.Operator.TheVariants as operators
use Rattle.ds_formula.specs.declared.content.Function.{Function}
use Rattle.ds_formula.specs.declared.content.Function.TheVariants as functions
use Rattle.ds_formula.specs.Plain.{Formula, Literal, At, Area, Signed, Joined, Called, Formulas, Nothing, Then, PlainContent, Empty, Constant, Computed}

-- a mark is a kind, a whole number, and four natural numbers
abbrev pub Mark : Type 0
Mark = (ℕ × ℤ) × ((ℕ × ℕ) × (ℕ × ℕ))

-- a mark of these parts
abbrev pub mark : ℕ → ℤ → ℕ → ℕ → ℕ → ℕ → Mark
mark kind z a b c d = ((kind, z), ((a, b), (c, d)))

-- marks can be distinguished
abbrev pub mark_code : Coded Mark
mark_code = coded× (coded× coded_ℕ coded_ℤ) (coded× (coded× coded_ℕ coded_ℕ) (coded× coded_ℕ coded_ℕ))

-- a number for each sign
abbrev pub sign_number : Sign → ℕ
sign_number signs.Plus = 0
sign_number signs.Minus = 1

-- the sign with the number
abbrev pub sign_of : ℕ → Sign
sign_of zero = signs.Plus
sign_of other = signs.Minus

-- a sign's number leads back to it
pub sign_back : (s : Sign) → sign_of (sign_number s) ≡ s
sign_back signs.Plus = refl
sign_back signs.Minus = refl

-- a number for each operator
abbrev pub operator_number : Operator → ℕ
operator_number operators.Multiply = 0
operator_number operators.Add = 1
operator_number operators.Subtract = 2
operator_number operators.Equal = 3
operator_number operators.NotEqual = 4
operator_number operators.Less = 5
operator_number operators.Greater = 6
operator_number operators.LessOrEqual = 7
operator_number operators.GreaterOrEqual = 8

-- the operator with the number
abbrev pub operator_of : ℕ → Operator
operator_of zero = operators.Multiply
operator_of (suc zero) = operators.Add
operator_of (suc (suc zero)) = operators.Subtract
operator_of (suc (suc (suc zero))) = operators.Equal
operator_of (suc (suc (suc (suc zero)))) = operators.NotEqual
operator_of (suc (suc (suc (suc (suc zero))))) = operators.Less
operator_of (suc (suc (suc (suc (suc (suc zero)))))) = operators.Greater
operator_of (suc (suc (suc (suc (suc (suc (suc zero))))))) = operators.LessOrEqual
operator_of other = operators.GreaterOrEqual

-- an operator's number leads back to it
pub operator_back : (x : Operator) → operator_of (operator_number x) ≡ x
operator_back operators.Multiply = refl
operator_back operators.Add = refl
operator_back operators.Subtract = refl
operator_back operators.Equal = refl
operator_back operators.NotEqual = refl
operator_back operators.Less = refl
operator_back operators.Greater = refl
operator_back operators.LessOrEqual = refl
operator_back operators.GreaterOrEqual = refl

-- a number for each function
abbrev pub function_number : Function → ℕ
function_number functions.Sum = 0
function_number functions.Min = 1
function_number functions.Max = 2
function_number functions.Abs = 3
function_number functions.Mod = 4
function_number functions.Quotient = 5
function_number functions.If = 6
function_number functions.Count = 7
function_number functions.And = 8
function_number functions.Or = 9
function_number functions.Not = 10

-- the function with the number
abbrev pub function_of : ℕ → Function
function_of zero = functions.Sum
function_of (suc zero) = functions.Min
function_of (suc (suc zero)) = functions.Max
function_of (suc (suc (suc zero))) = functions.Abs
function_of (suc (suc (suc (suc zero)))) = functions.Mod
function_of (suc (suc (suc (suc (suc zero))))) = functions.Quotient
function_of (suc (suc (suc (suc (suc (suc zero)))))) = functions.If
function_of (suc (suc (suc (suc (suc (suc (suc zero))))))) = functions.Count
function_of (suc (suc (suc (suc (suc (suc (suc (suc zero)))))))) = functions.And
function_of (suc (suc (suc (suc (suc (suc (suc (suc (suc zero))))))))) = functions.Or
function_of other = functions.Not

-- a function's number leads back to it
pub function_back : (x : Function) → function_of (function_number x) ≡ x
function_back functions.Sum = refl
function_back functions.Min = refl
function_back functions.Max = refl
function_back functions.Abs = refl
function_back functions.Mod = refl
function_back functions.Quotient = refl
function_back functions.If = refl
function_back functions.Count = refl
function_back functions.And = refl
function_back functions.Or = refl
function_back functions.Not = refl

-- what marks were built into so far: a formula, or arguments
pub data Part : Type 0 where
  One : Formula → Part
  Many : Formulas → Part

abbrev mutual
  -- the marks of a formula, before the rest: its own, then those of its parts
  pub marks : Formula → List Mark → List Mark
  marks (Literal z) rest = mark 0 z 0 0 0 0 ∷ rest
  marks (At c) rest = mark 1 (pos 0) c.column c.row 0 0 ∷ rest
  marks (Area r) rest = mark 2 (pos 0) r.first.column r.first.row r.last.column r.last.row ∷ rest
  marks (Signed s f) rest = mark 3 (pos 0) (sign_number s) 0 0 0 ∷ marks f rest
  marks (Joined o f g) rest = mark 4 (pos 0) (operator_number o) 0 0 0 ∷ marks f (marks g rest)
  marks (Called g fs) rest = mark 5 (pos 0) (function_number g) 0 0 0 ∷ marks_all fs rest

  -- the marks of arguments, before the rest
  pub marks_all : Formulas → List Mark → List Mark
  marks_all Nothing rest = mark 6 (pos 0) 0 0 0 0 ∷ rest
  marks_all (Then f fs) rest = mark 7 (pos 0) 0 0 0 0 ∷ marks f (marks_all fs rest)

-- a sign before the last formula
abbrev pub sign : Sign → List Part → List Part
sign s (One f ∷ parts) = One (Signed s f) ∷ parts
sign s parts = parts

-- an operator between the last two formulas
abbrev pub join : Operator → List Part → List Part
join o (One f ∷ One g ∷ parts) = One (Joined o f g) ∷ parts
join o parts = parts

-- a function of the last arguments
abbrev pub apply : Function → List Part → List Part
apply g (Many fs ∷ parts) = One (Called g fs) ∷ parts
apply g parts = parts

-- the last formula before the last arguments
abbrev pub then : List Part → List Part
then (One f ∷ Many fs ∷ parts) = Many (Then f fs) ∷ parts
then parts = parts

-- what a mark of this kind, with these numbers, makes of the parts after it
abbrev pub put_kind : ℕ → ℤ → ℕ → ℕ → ℕ → ℕ → List Part → List Part
put_kind zero z a b c d parts = One (Literal z) ∷ parts
put_kind (suc zero) z a b c d parts = One (At (record { column = a; row = b })) ∷ parts
put_kind (suc (suc zero)) z a b c d parts = One (Area (record { first = record { column = a; row = b }; last = record { column = c; row = d } })) ∷ parts
put_kind (suc (suc (suc zero))) z a b c d parts = sign (sign_of a) parts
put_kind (suc (suc (suc (suc zero)))) z a b c d parts = join (operator_of a) parts
put_kind (suc (suc (suc (suc (suc zero))))) z a b c d parts = apply (function_of a) parts
put_kind (suc (suc (suc (suc (suc (suc zero)))))) z a b c d parts = Many Nothing ∷ parts
put_kind other z a b c d parts = then parts

-- what a mark makes of the parts after it
abbrev pub put : Mark → List Part → List Part
put m parts = put_kind m.0.0 m.0.1 m.1.0.0 m.1.0.1 m.1.1.0 m.1.1.1 parts

-- the parts that marks are built into, the last mark first
abbrev pub build : List Mark → List Part
build [] = []
build (m ∷ ms) = put m (build ms)

mutual
  -- the marks of a formula are built into it
  build-marks : (f : Formula) (rest : List Mark) → build (marks f rest) ≡ One f ∷ build rest
  build-marks (Literal z) rest = refl
  build-marks (At c) rest = refl
  build-marks (Area r) rest = refl
  build-marks (Signed s f) rest = rw (build-marks f rest, sign_back s) refl
  build-marks (Joined o f g) rest = rw (build-marks f (marks g rest), build-marks g rest, operator_back o) refl
  build-marks (Called g fs) rest = rw (build-marks_all fs rest, function_back g) refl

  -- the marks of arguments are built into them
  build-marks_all : (fs : Formulas) (rest : List Mark) → build (marks_all fs rest) ≡ Many fs ∷ build rest
  build-marks_all Nothing rest = refl
  build-marks_all (Then f fs) rest = rw (build-marks f (marks_all fs rest), build-marks_all fs rest) refl

-- the formula that was built last
abbrev pub first : List Part → Formula
first [] = Literal (pos 0)
first (One f ∷ parts) = f
first (Many fs ∷ parts) = Literal (pos 0)

-- a content is a kind, a whole number, and marks
abbrev pub to_marks : PlainContent → (ℕ × ℤ) × List Mark
to_marks Empty = ((0, pos 0), [])
to_marks (Constant z) = ((1, z), [])
to_marks (Computed f) = ((2, pos 0), marks f [])

-- the content of this kind, with this number and these marks
abbrev pub content_of : ℕ → ℤ → List Mark → PlainContent
content_of zero z ms = Empty
content_of (suc zero) z ms = Constant z
content_of other z ms = Computed (first (build ms))

-- the content that was written as a kind, a whole number and marks
abbrev pub of_marks : (ℕ × ℤ) × List Mark → PlainContent
of_marks m = content_of m.0.0 m.0.1 m.1

-- a content written as marks is read back
pub of_marks-to_marks : (p : PlainContent) → of_marks (to_marks p) ≡ p
of_marks-to_marks Empty = refl
of_marks-to_marks (Constant z) = refl
of_marks-to_marks (Computed f) = rw (build-marks f []) refl

-- contents can be distinguished
abbrev pub plain_code : Coded PlainContent
plain_code = code_by ((ℕ × ℤ) × List Mark) (coded× (coded× coded_ℕ coded_ℤ) (coded_list mark_code)) to_marks of_marks of_marks-to_marks
