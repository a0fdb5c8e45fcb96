-- What a change makes of a position.
use Rattle.std.specs.Prelude.{ℕ, suc, ◌≡◌, ◌⊎◌, ◌↔◌, List, Option, Some, None, length, replicate, slice_set, slice_index_or}
use Rattle.ds_words.specs.declared.access.Access.{Access}
use Rattle.ds_words.specs.declared.access.Class.{Class}
use Rattle.ds_words.specs.Memory.{Memory, EvictsAt, StopsAt, Crashes}
use Rattle.pm_base.specs.Structures.{In}
use Rattle.pm_explore.specs.Cells.{ShowsCells, Follows}
use Rattle.pm_explore.specs.declared.cells.Cells.{Cells}
use Rattle.pm_explore.specs.declared.cells.Seen.{Seen}
use Rattle.pm_explore.specs.declared.explored.Landed.{Landed}
use Rattle.pm_explore.specs.declared.position.Position.{Position}
use Rattle.pm_explore.specs.declared.position.Told.{Told}
use Rattle.pm_explore.specs.declared.setting.Turn.{Turn}
use Rattle.pm_explore.specs.declared.setting.Turn.TheVariants.{Own, Any}

-- how many of its own calls a process has begun once this one has begun
abbrev pub begun_by : Turn → ℕ → ℕ
begun_by (Own number) begun = suc begun
begun_by Any begun = begun

-- both cells have the same in all
pub record SameCells (c c' : Cells) : Type 0 where
  pub words : c'.words.items ≡ c.words.items
  pub buffers : c'.buffers.items ≡ c.buffers.items

-- what was answered before, and this, and nothing else
abbrev pub HasTold : {T : Type 0} → Told T → List (Told T) → List (Told T) → Type 0
HasTold {T} new before after = (y : Told T) → In after y ↔ (In before y ⊎ (y ≡ new))

-- ... and what the process was answered, if it was
abbrev pub HasSaid : {T : Type 0} → ℕ → Option T → List (Told T) → List (Told T) → Type 0
HasSaid p None before after = after ≡ before
HasSaid p (Some t) before after = HasTold (record { process = p; response = t }) before after

module _ {S T : Type 0} where
  -- both positions have the same in all
  pub record Agrees (x y : Position S T) : Type 0 where
    pub cells : SameCells x.cells y.cells
    pub doing : y.doing.items ≡ x.doing.items
    pub begun : y.begun.items ≡ x.begun.items
    pub told : y.told.items ≡ x.told.items

  -- a call of a process has begun
  pub record HasBegun (p : ℕ) (call : S) (turn : Turn) (x y : Position S T) : Type 0 where
    pub cells : SameCells x.cells y.cells
    pub doing : y.doing.items ≡ slice_set x.doing.items p call
    pub begun : y.begun.items ≡ slice_set x.begun.items p (begun_by turn (slice_index_or x.begun.items p 0))
    pub told : y.told.items ≡ x.told.items

  -- an access came upon this; in all else both positions are the same
  pub record HasPerformed (window : List ℕ) (class : Class) (access : Access ℕ) (p : ℕ) (x : Position S T) (found : Seen) (y : Position S T) : Type 0 where
    pub cells : Follows window class access p x.cells y.cells found
    pub doing : y.doing.items ≡ x.doing.items
    pub begun : y.begun.items ≡ x.begun.items
    pub told : y.told.items ≡ x.told.items

  -- a process does what comes after its access, and was answered what it was
  pub record HasLanded (p : ℕ) (landed : Landed S T) (x y : Position S T) : Type 0 where
    pub cells : y.cells ≡ x.cells
    pub doing : y.doing.items ≡ slice_set x.doing.items p landed.doing
    pub begun : y.begun.items ≡ x.begun.items
    pub told : HasSaid p landed.says x.told.items y.told.items

  -- a process has stopped
  pub record HasStopped (p : ℕ) (stopped : S) (x y : Position S T) : Type 0 where
    pub cells : (window : List ℕ) (m m' : Memory ℕ) → ShowsCells window x.cells m → StopsAt p m m' → ShowsCells window y.cells m'
    pub doing : y.doing.items ≡ slice_set x.doing.items p stopped
    pub begun : y.begun.items ≡ x.begun.items
    pub told : y.told.items ≡ x.told.items

  -- a word is evicted
  pub record HasEvicted (window : List ℕ) (n : ℕ) (x y : Position S T) : Type 0 where
    pub cells : (m m' : Memory ℕ) → ShowsCells window x.cells m → EvictsAt n m m' → ShowsCells window y.cells m'
    pub doing : y.doing.items ≡ x.doing.items
    pub begun : y.begun.items ≡ x.begun.items
    pub told : y.told.items ≡ x.told.items

  -- all has crashed
  pub record HasCrashed (stopped : S) (x y : Position S T) : Type 0 where
    pub cells : (window : List ℕ) (m m' : Memory ℕ) → ShowsCells window x.cells m → Crashes m m' → ShowsCells window y.cells m'
    pub doing : y.doing.items ≡ replicate (length x.doing.items) stopped
    pub begun : y.begun.items ≡ x.begun.items
    pub told : y.told.items ≡ x.told.items
