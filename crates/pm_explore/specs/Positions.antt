-- The points of a run, and the positions that show them.
use Rattle.std.specs.Prelude.{ℕ, ◌≡◌, ◌↔◌, ◌++◌, List, IsTrue}
use Rattle.pm_base.specs.Structures.{In, put, World, Structure}
use Rattle.pm_base.specs.Runs.{Moves}
use Rattle.pm_base.specs.declared.history.Event.TheVariants as event
use Rattle.pm_explore.specs.Lists.{IsAt}
use Rattle.pm_explore.specs.Cells.{ShowsCells}
use Rattle.pm_explore.specs.Changes.{begun_by}
use Rattle.pm_explore.specs.declared.position.Position.{Position}
use Rattle.pm_explore.specs.declared.happen.Came.{Came}
use Rattle.pm_explore.specs.declared.happen.Came.TheVariants.{To, Stays, Outside, NoSeat}
use Rattle.pm_explore.specs.declared.setting.Setting.{Setting}
use Rattle.pm_explore.specs.declared.setting.Planned.{Planned}
use Rattle.pm_explore.specs.declared.setting.Turn.{Turn}
use Rattle.pm_explore.specs.declared.setting.Turn.TheVariants.{Own, Any}
use Rattle.pm_explore.specs.declared.setting.Move.{Move}
use Rattle.pm_explore.specs.declared.setting.Move.TheVariants.{Begin, Step, Stop, Evict, Crash}

-- a point of a run: the world, how many of its own calls each process has begun, and all that each was answered
pub record Point (S T H : Type 0) : Type 0 where
  pub world : World S H
  pub begun : ℕ → ℕ
  pub told : ℕ → List T

-- the call's turn has come, where the process has begun this number of its own calls
abbrev pub IsTurn : Turn → ℕ → Type 0
IsTurn (Own number) begun = begun ≡ number
IsTurn Any begun = Unit {0}

module _ {K S T : Type 0} (s : Structure K S T) (setting : Setting K S) where
  -- what happens leads from one point to another: it is an event of the structure, and the setting has it
  abbrev pub Passes : Point S T s.Hidden → Move → List T → Point S T s.Hidden → Type 0
  Passes old (Begin i) says new = (c : Planned S) × IsAt setting.calls.items i c × IsTurn c.turn (old.begun c.process) × Moves s setting.key old.world (event.Begin c.process c.call) says new.world
      × (new.begun ≡ put old.begun c.process (begun_by c.turn (old.begun c.process))) × (new.told ≡ old.told)
  Passes old (Step p) says new = Moves s setting.key old.world (event.Step p) says new.world × (new.begun ≡ old.begun) × (new.told ≡ put old.told p (says ++ old.told p))
  Passes old (Stop p) says new = IsTrue setting.stops × Moves s setting.key old.world (event.Stop p) says new.world × (new.begun ≡ old.begun) × (new.told ≡ old.told)
  Passes old (Evict n) says new = IsTrue setting.evicts × Moves s setting.key old.world (event.Evict n) says new.world × (new.begun ≡ old.begun) × (new.told ≡ old.told)
  Passes old Crash says new = IsTrue setting.crashes × Moves s setting.key old.world event.Crash says new.world × (new.begun ≡ old.begun) × (new.told ≡ old.told)

-- the position is that point, as far as the window and its processes go; what no word says stands in no position
pub record Shows {S T H : Type 0} (window : List ℕ) (x : Position S T) (point : Point S T H) : Type 0 where
  pub cells : ShowsCells window x.cells point.world.memory
  pub doing : (p : ℕ) (d : S) → IsAt x.doing.items p d → point.world.situation p ≡ d
  pub begun : (p n : ℕ) → IsAt x.begun.items p n → point.begun p ≡ n
  pub told : (p : ℕ) (t : T) → In (point.told p) t ↔ In x.told.items (record { process = p; response = t })

-- where this happens at a point that the position x shows, it leads to a point that y shows
abbrev pub Leads : {K S T : Type 0} → Structure K S T → Setting K S → Position S T → Move → Position S T → Type 0
Leads {K} {S} {T} s setting x happens y = (old new : Point S T s.Hidden) (says : List T) → Shows setting.window.items x old → Passes s setting old happens says new → Shows setting.window.items y new

-- where it leads is right; nothing is said where the position has no place for it
abbrev pub Comes : {K S T : Type 0} → Structure K S T → Setting K S → Position S T → Move → Came S T → Type 0
Comes s setting x happens (To y) = Leads s setting x happens y
Comes s setting x happens Stays = Leads s setting x happens x
Comes s setting x happens (Outside n) = Unit {0}
Comes s setting x happens NoSeat = Unit {0}
