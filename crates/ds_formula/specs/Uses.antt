-- Which functions a content calls.
use Rattle.std.specs.Prelude.{◌≡◌, true, List}
use Rattle.ds_formula.specs.declared.content.Function.{Function}
use Rattle.ds_formula.specs.Plain.{Formula, Literal, At, Area, Signed, Joined, Called, Formulas, Nothing, Then, PlainContent, Empty, Constant, Computed}
use Rattle.ds_formula.specs.Functions.{knows}

abbrev mutual
  -- the expression calls these functions alone
  pub CallsOnly : List Function → Formula → Type 0
  CallsOnly functions (Literal z) = Unit {0}
  CallsOnly functions (At c) = Unit {0}
  CallsOnly functions (Area r) = Unit {0}
  CallsOnly functions (Signed s f) = CallsOnly functions f
  CallsOnly functions (Joined o f g) = CallsOnly functions f × CallsOnly functions g
  CallsOnly functions (Called g fs) = (knows functions g ≡ true) × AllCallOnly functions fs

  -- the arguments call these functions alone
  pub AllCallOnly : List Function → Formulas → Type 0
  AllCallOnly functions Nothing = Unit {0}
  AllCallOnly functions (Then f fs) = CallsOnly functions f × AllCallOnly functions fs

-- the content calls these functions alone
abbrev pub ContentCallsOnly : List Function → PlainContent → Type 0
ContentCallsOnly functions Empty = Unit {0}
ContentCallsOnly functions (Constant z) = Unit {0}
ContentCallsOnly functions (Computed f) = CallsOnly functions f
