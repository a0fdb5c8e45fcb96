-- The steps of a process of registers, and what is so of registers at each position.
use Rattle.std.specs.Prelude.{ℕ, ◌+◌, ◌*◌, ◌≡◌, ◌≢◌, ◌<◌, ◌≤◌, List, true, false}
use Rattle.ds_words.specs.declared.access.Access.{Access}
use Rattle.ds_words.specs.declared.words.Word.{Word}
use Rattle.pm_base.specs.Structures.{In}
use Rattle.pm_explore.specs.Explored.{list_of}
use Rattle.pm_explore.specs.Lists.{IsAt, slot}
use Rattle.pm_explore.specs.declared.explored.Landed.{Landed}
use Rattle.pm_explore.specs.declared.position.Position.{Position}
use Rattle.pm_explore.specs.declared.position.Told.{Told}
use Rattle.pm_registers.specs.Calls.{write_access, write_next, recover_access, recover_next}
use Rattle.pm_registers.specs.Registers.{WriteGoes, write_doing, write_says, RecoverGoes, recover_doing, recover_says}
use Rattle.pm_registers.specs.declared.calls.Doing.{Doing}
use Rattle.pm_registers.specs.declared.calls.Doing.TheVariants.{Idle, Writing, Recovering, Stopped}
use Rattle.pm_registers.specs.declared.calls.Response.{Response}
use Rattle.pm_registers.specs.declared.calls.Response.TheVariants.{Wrote, Recalled}

-- a process that does this makes the access, and, answered so, goes on to that and is answered this
abbrev pub RegisterStepIs : Doing → Access ℕ → ℕ → Doing → List Response → Type 0
RegisterStepIs (Writing c) access answer after says = (c.process < 4294967296) × WriteGoes c.stage × (access ≡ write_access c) × (after ≡ write_doing (write_next c answer) (write_next c answer).stage) × (says ≡ write_says (write_next c answer) (write_next c answer).stage)
RegisterStepIs (Recovering c) access answer after says = (c.process < 4294967296) × RecoverGoes c.stage × (access ≡ recover_access c) × (after ≡ recover_doing (recover_next c answer) (recover_next c answer).stage) × (says ≡ recover_says (recover_next c answer).stage)
RegisterStepIs _ access answer after says = ⊥

-- a process that does this takes no step
abbrev pub NoRegisterStep : Doing → Type 0
NoRegisterStep now = (access : Access ℕ) (answer : ℕ) (after : Doing) (says : List Response) → RegisterStepIs now access answer after says → ⊥

-- each step of it makes this access
abbrev pub RegisterAsks : Doing → Access ℕ → Type 0
RegisterAsks now asked = (access : Access ℕ) (answer : ℕ) (after : Doing) (says : List Response) → RegisterStepIs now access answer after says → access ≡ asked

-- each step of it that is answered so lands there
abbrev pub RegisterLands : Doing → ℕ → Landed Doing Response → Type 0
RegisterLands now answer landed = (access : Access ℕ) (after : Doing) (says : List Response) → RegisterStepIs now access answer after says → (after ≡ landed.doing) × (says ≡ list_of landed.says)

-- a process that does the one thing may begin the other
abbrev pub MayDo : Doing → Doing → Type 0
MayDo (Idle last) (Writing c) = last < c.value
MayDo Stopped (Recovering c) = Unit {0}
MayDo _ call = ⊥

-- a register's head has reached the value for good
abbrev pub HasReached : List ℕ → List Word → ℕ → ℕ → Type 0
HasReached window words p value = (w : Word) × IsAt words (slot window (2 * p + 1)) w × (value ≤ w.persisted)

-- what a process was answered of its register is so
abbrev pub IsRightRecall : List ℕ → List Word → ℕ → Response → Type 0
IsRightRecall window words p (Wrote value) = HasReached window words p value
IsRightRecall window words p (Recalled last true) = HasReached window words p last
IsRightRecall window words p (Recalled last false) = (w : Word) → IsAt words (slot window (2 * p + 1)) w → w.cached ≢ last

-- the position is right
abbrev pub AreRightRecalls : List ℕ → Position Doing Response → Type 0
AreRightRecalls window x = (t : Told Response) → In x.told.items t → IsRightRecall window x.cells.words.items t.process t.response
