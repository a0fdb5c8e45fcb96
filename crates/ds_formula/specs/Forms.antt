-- Which expression stands at the front of a text, how its ranges stand, and what is after it.
use Rattle.std.specs.Prelude.{◌≡◌, ℕ, suc, ◌<◌, true, List, Ok}
use Rattle.ds_formula.specs.declared.content.Sign.{Sign}
use Rattle.ds_formula.specs.declared.content.Operator.{Operator}
use Rattle.ds_formula.specs.declared.content.Operator.TheVariants.{Multiply, Add, Subtract, Equal, NotEqual, Less, Greater, LessOrEqual, GreaterOrEqual}
use Rattle.ds_formula.specs.declared.content.Function.{Function}
use Rattle.ds_formula.specs.declared.ranges.Ranges.{Ranges}
use Rattle.ds_formula.specs.declared.ranges.Ranges.TheVariants.{Placed, Bare}
use Rattle.ds_formula.specs.declared.tokens.Leaf.{Leaf}
use Rattle.ds_formula.specs.declared.tokens.Leaf.TheVariants as leaves
use Rattle.ds_formula.specs.declared.tokens.Lead.TheVariants as leads
use Rattle.ds_formula.specs.declared.tokens.Follow.TheVariants.{Infix, Close, Semicolon, End}
use Rattle.ds_formula.specs.Plain.{Formula, Literal, At, Area, Signed, Joined, Called, Formulas, Nothing, Then, count}
use Rattle.ds_formula.specs.Bytes.{skipped, byte_at}
use Rattle.ds_formula.specs.Functions.{Scope, takes}
use Rattle.ds_formula.specs.Ranges.{used, first_of, as_argument}
use Rattle.ds_formula.specs.Tokens.{lead_at, follow_at}

-- how tightly an operator binds: comparisons least (OpenFormula 5.5)
abbrev pub level_of : Operator → ℕ
level_of Multiply = 2
level_of Add = 1
level_of Subtract = 1
level_of Equal = 0
level_of NotEqual = 0
level_of Less = 0
level_of Greater = 0
level_of LessOrEqual = 0
level_of GreaterOrEqual = 0

-- the expression of an operand of one token
abbrev pub leaf_formula : Leaf → Formula
leaf_formula (leaves.Number n) = Literal n
leaf_formula (leaves.Reference c) = At c
leaf_formula (leaves.Range r left) = Area r

-- how a range stands that is an operand of one token
abbrev pub leaf_ranges : Leaf → Ranges
leaf_ranges (leaves.Number n) = Placed
leaf_ranges (leaves.Reference c) = Placed
leaf_ranges (leaves.Range r left) = Bare left

-- no operator of this level is at the front
abbrev pub NoneOf : ℕ → List ℕ → Type 0
NoneOf l text = (o : Operator) (behind : List ℕ) → follow_at text ≡ Ok (Infix o, behind) → level_of o ≡ l → ⊥

-- no semicolon is at the front
abbrev pub NoSemicolon : List ℕ → Type 0
NoSemicolon text = (behind : List ℕ) → follow_at text ≡ Ok (Semicolon, behind) → ⊥

mutual
  -- an operand after any number of signs: a number, a reference, a range, an expression in parentheses, or a call
  pub data Operand (scope : Scope) : List ℕ → Formula → Ranges → List ℕ → Type 0 where
    leaf : {text : List ℕ} {l : Leaf} {rest : List ℕ} → lead_at scope text ≡ Ok (leads.Leaf l, rest) → Operand scope text (leaf_formula l) (leaf_ranges l) rest
    sign : {text mid rest : List ℕ} {s : Sign} {f : Formula} {r : Ranges}
        → lead_at scope text ≡ Ok (leads.Prefix s, mid) → Operand scope mid f r rest → Operand scope text (Signed s f) (used r) rest
    group : {text inner mid rest : List ℕ} {f : Formula} {r : Ranges}
        → lead_at scope text ≡ Ok (leads.Open, inner) → Level scope 0 inner f r mid → follow_at mid ≡ Ok (Close, rest) → Operand scope text f r rest
    call : {text mid rest : List ℕ} {g : Function} {left : ℕ} {fs : Formulas} {r : Ranges}
        → lead_at scope text ≡ Ok (leads.Name g left, mid) → Call scope g mid fs r rest → Operand scope text (Called g fs) r rest

  -- what is after the name of a call: expressions in parentheses, as many as the function takes
  pub data Call (scope : Scope) : Function → List ℕ → Formulas → Ranges → List ℕ → Type 0 where
    bracketed : {g : Function} {text inner mid rest : List ℕ} {fs : Formulas} {r : Ranges}
        → byte_at 40 (skipped text) ≡ Ok inner → Arguments scope g inner fs r mid → follow_at mid ≡ Ok (Close, rest) → takes g (count fs) ≡ true → Call scope g text fs r rest

  -- the arguments of a call: expressions, parted by semicolons
  pub data Arguments (scope : Scope) : Function → List ℕ → Formulas → Ranges → List ℕ → Type 0 where
    last : {g : Function} {text rest : List ℕ} {f : Formula} {r : Ranges} → Level scope 0 text f r rest → NoSemicolon rest → Arguments scope g text (Then f Nothing) (as_argument g r) rest
    more : {g : Function} {text mid next rest : List ℕ} {f : Formula} {fs : Formulas} {r s : Ranges}
        → Level scope 0 text f r mid → follow_at mid ≡ Ok (Semicolon, next) → Arguments scope g next fs s rest → Arguments scope g text (Then f fs) (first_of (as_argument g r) s) rest

  -- level 3 is an operand; a looser one is a form of the next level and what its own operators add to it
  pub data Level (scope : Scope) : ℕ → List ℕ → Formula → Ranges → List ℕ → Type 0 where
    tightest : {l : ℕ} {text rest : List ℕ} {f : Formula} {r : Ranges} → l ≡ 3 → Operand scope text f r rest → Level scope l text f r rest
    looser : {l : ℕ} {text mid rest : List ℕ} {f g : Formula} {r s : Ranges} → l < 3 → Level scope (suc l) text f r mid → Chain scope l f r mid g s rest → Level scope l text g s rest

  -- f and the operators of the level with their right sides, as far as there are any, grouped from the left
  pub data Chain (scope : Scope) : ℕ → Formula → Ranges → List ℕ → Formula → Ranges → List ℕ → Type 0 where
    ends : {l : ℕ} {f : Formula} {r : Ranges} {rest : List ℕ} → NoneOf l rest → Chain scope l f r rest f r rest
    goes_on : {l : ℕ} {f g h : Formula} {r s t : Ranges} {text right mid rest : List ℕ} {o : Operator}
        → follow_at text ≡ Ok (Infix o, right) → level_of o ≡ l → Level scope (suc l) right g s mid
        → Chain scope l (Joined o f g) (first_of (used r) (used s)) mid h t rest → Chain scope l f r text h t rest

-- the whole text is that of this expression
abbrev pub Expression : Scope → List ℕ → Formula → Ranges → Type 0
Expression scope text f r = (mid rest : List ℕ) × Level scope 0 text f r mid × (follow_at mid ≡ Ok (End, rest))
