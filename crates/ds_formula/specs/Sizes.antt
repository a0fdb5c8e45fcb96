-- How large an expression is.
use Rattle.std.specs.Prelude.{ℕ, ◌+◌, ◌≤◌, max}
use Rattle.ds_formula.specs.Limits.{NODES_MOST, DEPTH_MOST}
use Rattle.ds_formula.specs.Plain.{Formula, Literal, At, Area, Signed, Joined, Called, Formulas, Nothing, Then}

abbrev mutual
  -- how many numbers, references, ranges, signs, operators and functions an expression has
  pub nodes : Formula → ℕ
  nodes (Literal z) = 1
  nodes (At c) = 1
  nodes (Area r) = 1
  nodes (Signed s f) = 1 + nodes f
  nodes (Joined o f g) = 1 + (nodes f + nodes g)
  nodes (Called g fs) = 1 + nodes_of fs

  -- how many nodes the arguments have
  pub nodes_of : Formulas → ℕ
  nodes_of Nothing = 0
  nodes_of (Then f fs) = nodes f + nodes_of fs

abbrev mutual
  -- how deep an expression is nested: a number, a reference or a range has depth 1
  pub depth : Formula → ℕ
  depth (Literal z) = 1
  depth (At c) = 1
  depth (Area r) = 1
  depth (Signed s f) = 1 + depth f
  depth (Joined o f g) = 1 + max (depth f) (depth g)
  depth (Called g fs) = 1 + depth_of fs

  -- how deep the deepest of the arguments is
  pub depth_of : Formulas → ℕ
  depth_of Nothing = 0
  depth_of (Then f fs) = max (depth f) (depth_of fs)

-- the expression is not too large
pub record Fits (f : Formula) : Type 0 where
  pub few : nodes f ≤ NODES_MOST
  pub shallow : depth f ≤ DEPTH_MOST
