-- Why lines are not sound.
use Rattle.std.specs.Prelude.{ℕ, ◌≡◌, ◌⊎◌, ◌-◌, ◌∷◌, [], List, Option, None, Some, take}
use Rattle.ds_layout.specs.declared.layout.Layout.{Layout}
use Rattle.ds_store.specs.Opened.{LeadsNowhere}
use Rattle.ds_store.specs.Summing.{AreNotAdded}
use Rattle.ds_store.specs.declared.fault.StoreFault.{StoreFault}
use Rattle.ds_store.specs.declared.fault.StoreFault.TheVariants.{Line, Missing, NoSum, Sum}
use Rattle.ds_store_journal.specs.Journals.{sheet_in, size_of}
use Rattle.ds_store_journal.specs.declared.fault.JournalFault.TheVariants.{KeyAgain}
use Rattle.ds_store_keys.specs.Keys.{StandOnce, keys_of}
use Rattle.ds_store_sums.specs.Sums.{AreSummed}
use Rattle.ds_store_sums.specs.declared.sums.Tail.TheVariants.{Loose}

-- the first line makes a sheet of this layout
abbrev pub Makes : Layout → List (List ℕ) → Type 0
Makes layout [] = ⊥
Makes layout (first ∷ rest) = sheet_in first ≡ Some (size_of layout)

-- the key of the line of this number, from 1, stands in one before it, and those before it have each key once
pub record StandsAgain (layout : Layout) (lines : List (List ℕ)) (number : ℕ) : Type 0 where
  pub makes : Makes layout lines
  pub once : StandOnce (keys_of layout (take (number - 1) lines))
  pub again : StandOnce (keys_of layout (take number lines)) → ⊥

-- the fault is that a key of the lines stands again
abbrev pub HaveKeyAgain : List (List ℕ) → StoreFault → Type 0
HaveKeyAgain lines fault = (layout : Layout) × (number : ℕ) × (fault ≡ Line number KeyAgain) × StandsAgain layout lines number

-- the lines do not have their sums, for this fault: one is not added, or lines that have no sum are after one that has
abbrev pub AreUnsummed : List (List ℕ) → StoreFault → Type 0
AreUnsummed lines fault = AreNotAdded [] lines fault ⊎ ((number : ℕ) × (fault ≡ NoSum number) × AreSummed lines Loose)

-- the lines are not sound, for this fault: they lead to no sheet, or a key stands again, or they do not have their sums, or an
-- allocation failed
abbrev pub AreUnsound : List (List ℕ) → StoreFault → Type 0
AreUnsound lines fault = LeadsNowhere lines fault ⊎ (HaveKeyAgain lines fault ⊎ AreUnsummed lines fault)

-- how many lines are before the one that the fault is of; 0 where it is of none
abbrev pub before_of : StoreFault → ℕ
before_of (Missing number) = number - 1
before_of (Line number fault) = number - 1
before_of (Sum number) = number - 1
before_of (NoSum number) = number - 1
before_of _ = 0

-- how many lines are sound, of as many
abbrev pub sound_before : Option StoreFault → ℕ → ℕ
sound_before None all = all
sound_before (Some fault) all = before_of fault
