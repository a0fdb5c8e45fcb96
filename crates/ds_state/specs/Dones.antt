-- How many edits were answered Done.
use Rattle.std.specs.Prelude.{ℕ, ◌≡◌, ◌≢◌, List, [], ◌∷◌, length, Option, Some, Contains}
use Rattle.ds_state.specs.World.{PlainEdit, PlainIssue}

-- no edit stands in the list twice
abbrev pub AreDistinct : List PlainEdit → Type 0
AreDistinct [] = Unit {0}
AreDistinct (e ∷ es) = (Contains es e → ⊥) × AreDistinct es

-- among the linearized edits stand n different ones that are no longer open
pub record HasAnswered (counted : List PlainEdit) (pending : ℕ → Option PlainIssue) (done : ℕ) : Type 0 where
  pub closed : List PlainEdit
  pub as_many : length closed ≡ done
  pub once : AreDistinct closed
  pub count : (e : PlainEdit) → Contains closed e → Contains counted e
  pub answered : (e : PlainEdit) (issue : PlainIssue) → Contains closed e → pending e.process ≡ Some issue → issue.edit ≢ e
