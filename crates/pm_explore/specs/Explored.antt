-- What the next step of a process is.
use Rattle.std.specs.Prelude.{ℕ, ◌≡◌, List, [], ◌∷◌, Option, Some, None}
use Rattle.ds_words.specs.declared.access.Access.{Access}
use Rattle.pm_base.specs.Structures.{Structure}
use Rattle.pm_explore.specs.declared.explored.Landed.{Landed}

-- nothing, or one thing
abbrev pub list_of : {T : Type 0} → Option T → List T
list_of None = []
list_of (Some t) = t ∷ []

module _ {K S T : Type 0} (s : Structure K S T) (key : K) (p : ℕ) (now : S) where
  -- a process that does this takes no step
  abbrev pub Rests : Type 0
  Rests = (access : Access ℕ) (answer : ℕ) (after : S) (says : List T) → s.steps key p now access answer after says → ⊥

  -- each step of it makes this access
  abbrev pub AsksFor : Access ℕ → Type 0
  AsksFor asked = (access : Access ℕ) (answer : ℕ) (after : S) (says : List T) → s.steps key p now access answer after says → access ≡ asked

  -- each step of it that is answered so leads there, and tells that
  abbrev pub LandsAt : ℕ → Landed S T → Type 0
  LandsAt answer landed = (access : Access ℕ) (after : S) (says : List T) → s.steps key p now access answer after says → (after ≡ landed.doing) × (says ≡ list_of landed.says)
