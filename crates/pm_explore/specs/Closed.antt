-- Lists of positions that nothing leaves, and what holds at each point of a run.
use Rattle.std.specs.Prelude.{ℕ, ◌≡◌, List, [], ◌∷◌, ◌++◌}
use Rattle.pm_base.specs.Structures.{Structure, In}
use Rattle.pm_base.specs.Runs.{IsNew}
use Rattle.pm_explore.specs.Positions.{Point, Passes, Shows}
use Rattle.pm_explore.specs.declared.happen.Came.{Came}
use Rattle.pm_explore.specs.declared.happen.Came.TheVariants.{To}
use Rattle.pm_explore.specs.declared.position.Position.{Position}
use Rattle.pm_explore.specs.declared.setting.Move.{Move}
use Rattle.pm_explore.specs.declared.setting.Setting.{Setting}

module _ {K S T : Type 0} (s : Structure K S T) (setting : Setting K S) where
  -- one of the positions shows the point
  pub record IsShown (xs : List (Position S T)) (point : Point S T s.Hidden) : Type 0 where
    pub position : Position S T
    pub inside : In xs position
    pub shows : Shows setting.window.items position point

  -- where this happens at a point that x shows, it leads to a point that one of the positions shows
  abbrev pub LeadsInto : List (Position S T) → Position S T → Move → Type 0
  LeadsInto xs x happens = (old new : Point S T s.Hidden) (says : List T) → Shows setting.window.items x old → Passes s setting old happens says new → IsShown xs new

  -- whatever happens at a point that x shows leads to a point that one of the positions shows
  abbrev pub StaysIn : List (Position S T) → Position S T → Type 0
  StaysIn xs x = (happens : Move) → LeadsInto xs x happens

  -- the positions are closed: nothing that may happen leads out of them
  abbrev pub Closed : List (Position S T) → Type 0
  Closed xs = (x : Position S T) → In xs x → StaysIn xs x

  -- the point at which a run begins: that of a new structure, where no call has begun and nothing was answered
  pub record IsStart (point : Point S T s.Hidden) : Type 0 where
    pub new : IsNew s setting.key point.world
    pub begun : (p : ℕ) → point.begun p ≡ 0
    pub told : (p : ℕ) → point.told p ≡ []

  -- a run, from one point to another: what happens, one thing after another
  pub data Runs (first : Point S T s.Hidden) : Point S T s.Hidden → Type 0 where
    at_first : Runs first first
    goes_on : (point next : Point S T s.Hidden) (happens : Move) (says : List T) → Runs first point → Passes s setting point happens says next → Runs first next

  -- the positions are all: they show the start, and nothing leads out of them
  pub record AreAll (xs : List (Position S T)) : Type 0 where
    pub start : (point : Point S T s.Hidden) → IsStart point → IsShown xs point
    pub closed : Closed xs

  -- each point of each run from the start is shown by one of the positions
  abbrev pub ShowRuns : List (Position S T) → Type 0
  ShowRuns xs = (first last : Point S T s.Hidden) → IsStart first → Runs first last → IsShown xs last

  -- each point of each run from the start is shown by a position of which the judgment holds
  abbrev pub HoldsAlways : (Position S T → Type 0) → Type 0
  HoldsAlways judgment = (first last : Point S T s.Hidden) → IsStart first → Runs first last → (x : Position S T) × judgment x × Shows setting.window.items x last

-- the judgment holds of each of the positions
abbrev pub AllHold : {S T : Type 0} → (Position S T → Type 0) → List (Position S T) → Type 0
AllHold {S} {T} judgment xs = (x : Position S T) → In xs x → judgment x

-- a run by a schedule, which lists what happens in turn
pub data RunsBy {K S T : Type 0} (s : Structure K S T) (setting : Setting K S) (first : Point S T s.Hidden) : List Move → Point S T s.Hidden → Type 0 where
  not_yet : RunsBy s setting first [] first
  one_more : (schedule : List Move) (point next : Point S T s.Hidden) (happens : Move) (says : List T) → RunsBy s setting first schedule point → Passes s setting point happens says next → RunsBy s setting first (schedule ++ happens ∷ []) next

-- each run by the schedule ends at a point that this position shows
abbrev pub EndsAt : {K S T : Type 0} → Structure K S T → Setting K S → List Move → Position S T → Type 0
EndsAt {K} {S} {T} s setting schedule x = (first last : Point S T s.Hidden) → IsStart s setting first → RunsBy s setting first schedule last → Shows setting.window.items x last

-- what the schedule comes to, where nothing of it leads nowhere
abbrev pub Replays : {K S T : Type 0} → Structure K S T → Setting K S → List Move → Came S T → Type 0
Replays s setting schedule (To x) = EndsAt s setting schedule x
Replays s setting schedule _ = Unit {0}
