-- The steps of a process of a mark, and what is so of a mark at each position.
use Rattle.std.specs.Prelude.{ℕ, ◌≡◌, ◌≤◌, List}
use Rattle.ds_words.specs.declared.access.Access.{Access}
use Rattle.ds_words.specs.declared.words.Word.{Word}
use Rattle.pm_base.specs.Structures.{In}
use Rattle.pm_explore.specs.Explored.{list_of}
use Rattle.pm_explore.specs.Lists.{IsAt}
use Rattle.pm_explore.specs.declared.explored.Landed.{Landed}
use Rattle.pm_explore.specs.declared.position.Position.{Position}
use Rattle.pm_explore.specs.declared.position.Told.{Told}
use Rattle.pm_mark.specs.Marks.{RaiseGoes, raise_access_at, raise_doing, raise_next, raise_says}
use Rattle.pm_mark.specs.declared.mark.Doing.{Doing}
use Rattle.pm_mark.specs.declared.mark.Doing.TheVariants.{Idle, Raising}

-- a process that does this makes the access, and, answered so, goes on to that and is answered this
abbrev pub RaiseIs : Doing → Access ℕ → ℕ → Doing → List ℕ → Type 0
RaiseIs Idle access answer after says = ⊥
RaiseIs (Raising c) access answer after says = RaiseGoes c.stage × (access ≡ raise_access_at c.value c.stage) × (after ≡ raise_doing (raise_next c answer) (raise_next c answer).stage) × (says ≡ raise_says c.value (raise_next c answer).stage)

-- a process that does this takes no step
abbrev pub NoRaise : Doing → Type 0
NoRaise now = (access : Access ℕ) (answer : ℕ) (after : Doing) (says : List ℕ) → RaiseIs now access answer after says → ⊥

-- each step of it makes this access
abbrev pub RaiseAsks : Doing → Access ℕ → Type 0
RaiseAsks now asked = (access : Access ℕ) (answer : ℕ) (after : Doing) (says : List ℕ) → RaiseIs now access answer after says → access ≡ asked

-- each step of it that is answered so lands there
abbrev pub RaiseLands : Doing → ℕ → Landed Doing ℕ → Type 0
RaiseLands now answer landed = (access : Access ℕ) (after : Doing) (says : List ℕ) → RaiseIs now access answer after says → (after ≡ landed.doing) × (says ≡ list_of landed.says)

-- no answer is above the mark's persisted side
abbrev pub IsUpForGood : Position Doing ℕ → Type 0
IsUpForGood x = (t : Told ℕ) → In x.told.items t → (w : Word) × IsAt x.cells.words.items 0 w × (t.response ≤ w.persisted)
