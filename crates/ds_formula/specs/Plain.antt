-- Contents without where they lie in memory: equal contents are those with equal plain views.
use Rattle.std.specs.Prelude.{ℕ, ℤ, ◌+◌, List, [], ◌∷◌}
use Rattle.ds_formula.specs.declared.cells.Cell.{Cell}
use Rattle.ds_formula.specs.declared.cells.Rect.{Rect}
use Rattle.ds_formula.specs.declared.content.Sign.{Sign}
use Rattle.ds_formula.specs.declared.content.Operator.{Operator}
use Rattle.ds_formula.specs.declared.content.Function.{Function}
use Rattle.ds_formula.specs.declared.content.Tree.{Tree}
use Rattle.ds_formula.specs.declared.content.Tree.TheOpen.{Tree-F}
use Rattle.ds_formula.specs.declared.content.Tree.TheOpen as layers
use Rattle.ds_formula.specs.declared.content.Tree.TheFolds.{fold-Tree}
use Rattle.ds_formula.specs.declared.content.Content.{Content}
use Rattle.ds_formula.specs.declared.content.Content.TheVariants as contents

mutual
  -- an expression: a number, a reference, a range, or a sign, an operator or a function over expressions
  pub data Formula : Type 0 where
    Literal : ℤ → Formula
    At : Cell → Formula
    Area : Rect → Formula
    Signed : Sign → Formula → Formula
    Joined : Operator → Formula → Formula → Formula
    Called : Function → Formulas → Formula

  -- the arguments of a function
  pub data Formulas : Type 0 where
    Nothing : Formulas
    Then : Formula → Formulas → Formulas

-- what a cell holds
pub data PlainContent : Type 0 where
  Empty : PlainContent
  Constant : ℤ → PlainContent
  Computed : Formula → PlainContent

-- formulas in a list, as arguments
abbrev pub listed : List Formula → Formulas
listed [] = Nothing
listed (f ∷ fs) = Then f (listed fs)

-- the plain view of a tree, where those of its parts are known
abbrev pub layer : Tree-F Formula → Formula
layer (layers.Number n) = Literal n
layer (layers.Reference c) = At c
layer (layers.Range r) = Area r
layer (layers.Prefix s f) = Signed s f.value
layer (layers.Binary o f g) = Joined o f.value g.value
layer (layers.Call f fs) = Called f (listed fs.items)

-- the plain view of a tree
abbrev pub formula : Tree → Formula
formula = fold-Tree Formula layer

-- the plain view of a content
abbrev pub plain : Content → PlainContent
plain contents.Blank = Empty
plain (contents.Number z) = Constant z
plain (contents.Formula t) = Computed (formula t)

-- how many arguments a function has
abbrev pub count : Formulas → ℕ
count Nothing = 0
count (Then f fs) = 1 + count fs
