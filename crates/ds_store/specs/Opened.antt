-- What the lines of a store lead to, and why some lead to nothing.
use Rattle.std.specs.Prelude.{ℕ, ◌≡◌, ◌⊎◌, ◌++◌, ◌∷◌, [], List, None, length, suc}
use Rattle.std.specs.Arc.{arc_value}
use Rattle.ds_layout.specs.declared.layout.Layout.{Layout}
use Rattle.ds_shared_seats.specs.declared.seat.Seat.{Seat}
use Rattle.ds_store.specs.Replays.{IsUnfollowed}
use Rattle.ds_store.specs.Stores.{LeadsTo}
use Rattle.ds_store.specs.declared.fault.StoreFault.{StoreFault}
use Rattle.ds_store.specs.declared.fault.StoreFault.TheVariants.{Line, Missing, NoMemory}
use Rattle.ds_store.specs.declared.seated.SeatedSheet.{SeatedSheet}
use Rattle.ds_store_journal.specs.Journals.{sheet_in}
use Rattle.ds_store_journal.specs.declared.fault.JournalFault.{JournalFault}
use Rattle.ds_store_journal.specs.declared.fault.JournalFault.TheVariants as faults

-- the lines lead to this sheet
abbrev pub Leads : Layout → List ℕ → SeatedSheet → List (List ℕ) → Type 0
Leads layout counts seated lines = LeadsTo layout counts (arc_value seated.sheet.sheet) seated.seats.items lines

-- that the line of this number cannot be followed, for this fault; or that an allocation failed
abbrev pub fault_at : ℕ → JournalFault → StoreFault
fault_at number faults.NoMemory = NoMemory
fault_at number faults.NoSheet = Line number faults.NoSheet
fault_at number faults.NoEdit = Line number faults.NoEdit
fault_at number (faults.Refused why) = Line number (faults.Refused why)
fault_at number faults.NotDone = Line number faults.NotDone
fault_at number faults.Other = Line number faults.Other
fault_at number faults.KeyAgain = Line number faults.KeyAgain

-- the line of this number, from 1, is not followed, for this fault, where those before it lead to a sheet
pub record Stops (lines : List (List ℕ)) (number : ℕ) (why : JournalFault) : Type 0 where
  pub before : List (List ℕ)
  pub line : List ℕ
  pub after : List (List ℕ)
  pub are : lines ≡ before ++ line ∷ after
  pub at : number ≡ suc (length before)
  pub layout : Layout
  pub counts : List ℕ
  pub sheet : SeatedSheet
  pub seats : List Seat
  pub leads : Leads layout counts sheet before
  pub unfollowed : IsUnfollowed layout counts (arc_value sheet.sheet.sheet) sheet.seats.items seats line why

-- the lines lead to no sheet, for this fault: there is none, or the first one makes no sheet, or a later one is not followed, or
-- an allocation failed
abbrev pub LeadsNowhere : List (List ℕ) → StoreFault → Type 0
LeadsNowhere [] fault = fault ≡ Missing 1
LeadsNowhere (first ∷ rest) fault =
    (fault ≡ NoMemory) ⊎ (((fault ≡ Line 1 faults.NoSheet) × (sheet_in first ≡ None)) ⊎ ((number : ℕ) × (why : JournalFault) × (fault ≡ fault_at number why) × Stops (first ∷ rest) number why))
