-- A text for each content: in capital letters, without white space, and without parentheses that precedence makes needless.
use Rattle.std.specs.Prelude.{ℕ, ◌+◌, nat_lt, List, [], ◌∷◌, ◌++◌, codes, if◌then◌else◌}
use Rattle.std.specs.Fmt.{signed_decimal}
use Rattle.ds_formula.specs.declared.content.Sign.{Sign}
use Rattle.ds_formula.specs.declared.content.Sign.TheVariants.{Plus, Minus}
use Rattle.ds_formula.specs.declared.content.Operator.{Operator}
use Rattle.ds_formula.specs.declared.content.Operator.TheVariants.{Multiply, Add, Subtract, Equal, NotEqual, Less, Greater, LessOrEqual, GreaterOrEqual}
use Rattle.ds_formula.specs.Plain.{Formula, Literal, At, Area, Signed, Joined, Called, Formulas, Nothing, Then, PlainContent, Empty, Constant, Computed}
use Rattle.ds_formula.specs.Functions.{name_of}
use Rattle.ds_formula.specs.Forms.{level_of}
use Rattle.ds_formula.specs.Names.{cell_text}

-- the text of a sign
abbrev pub sign_text : Sign → List ℕ
sign_text Plus = codes "+"
sign_text Minus = codes "-"

-- the text of an operator
abbrev pub operator_text : Operator → List ℕ
operator_text Multiply = codes "*"
operator_text Add = codes "+"
operator_text Subtract = codes "-"
operator_text Equal = codes "="
operator_text NotEqual = codes "<>"
operator_text Less = codes "<"
operator_text Greater = codes ">"
operator_text LessOrEqual = codes "<="
operator_text GreaterOrEqual = codes ">="

-- how tightly the parts of an expression hold together: 3 where it is an operand
abbrev pub precedence : Formula → ℕ
precedence (Joined o f g) = level_of o
precedence (Literal z) = 3
precedence (At c) = 3
precedence (Area r) = 3
precedence (Signed s f) = 3
precedence (Called g fs) = 3

-- the text between `(` and `)`
abbrev pub in_parentheses : List ℕ → List ℕ
in_parentheses text = 40 ∷ (text ++ 41 ∷ [])

abbrev mutual
  -- the text of an expression
  pub text_of : Formula → List ℕ
  text_of (Literal z) = signed_decimal z
  text_of (At c) = codes "[." ++ (cell_text c ++ codes "]")
  text_of (Area r) = codes "[." ++ (cell_text r.first ++ (codes ":." ++ (cell_text r.last ++ codes "]")))
  text_of (Signed s f) = sign_text s ++ (if nat_lt (precedence f) 3 then in_parentheses (text_of f) else text_of f)
  text_of (Joined o f g) =
      (if nat_lt (precedence f) (level_of o) then in_parentheses (text_of f) else text_of f)
      ++ (operator_text o ++ (if nat_lt (precedence g) (level_of o + 1) then in_parentheses (text_of g) else text_of g))
  text_of (Called g fs) = name_of g ++ (40 ∷ (texts_of fs ++ 41 ∷ []))

  -- the texts of the arguments, parted by semicolons
  pub texts_of : Formulas → List ℕ
  texts_of Nothing = []
  texts_of (Then f fs) = text_of f ++ others_of fs

  -- the texts of further arguments, each after a semicolon
  pub others_of : Formulas → List ℕ
  others_of Nothing = []
  others_of (Then f fs) = 59 ∷ (text_of f ++ others_of fs)

-- the text of an expression where a form of this level may stand
abbrev pub wrapped : ℕ → Formula → List ℕ
wrapped level f = if nat_lt (precedence f) level then in_parentheses (text_of f) else text_of f

-- the text of a content: of a formula after `=`
abbrev pub content_text : PlainContent → List ℕ
content_text Empty = []
content_text (Constant z) = signed_decimal z
content_text (Computed f) = 61 ∷ text_of f
