-- Why a line is not followed.
use Rattle.std.specs.Prelude.{ℕ, ◌≡◌, ◌≢◌, ◌⊎◌, List, None, Some, false, slice_index_or}
use Rattle.ds_layout.specs.declared.layout.Layout.{Layout}
use Rattle.ds_script_io.specs.Fields.{is_skipped}
use Rattle.ds_shared.specs.declared.ended.Ended.{Ended}
use Rattle.ds_shared.specs.declared.ended.Ended.TheVariants as ended
use Rattle.ds_shared.specs.declared.sheet.SharedSheet.{SharedSheet}
use Rattle.ds_shared_seats.specs.declared.seat.Seat.{Seat}
use Rattle.ds_shared_seats.specs.Calls.{Edits}
use Rattle.ds_state.specs.declared.answer.EditEnd.{EditEnd}
use Rattle.ds_state.specs.declared.answer.EditEnd.TheVariants as ends
use Rattle.ds_store.specs.Stores.{NUMBER_MOST, STEPS_MOST}
use Rattle.ds_store_journal.specs.Journals.{AskedFor, edit_in}
use Rattle.ds_store_journal.specs.declared.fault.JournalFault.{JournalFault}
use Rattle.ds_store_journal.specs.declared.fault.JournalFault.TheVariants as faults

-- an edit that ended so is not done with this number, for this fault
abbrev pub IsNotDone : ℕ → Ended EditEnd → JournalFault → Type 0
IsNotDone number (ended.Answered (ends.Done done)) fault = (done ≢ number) × (fault ≡ faults.Other)
IsNotDone number (ended.Answered (ends.Overtaken mine other)) fault = fault ≡ faults.NotDone
IsNotDone number (ended.Refused why) fault = fault ≡ faults.Refused why
IsNotDone number ended.Stopped fault = fault ≡ faults.Other

-- the seat of the process makes the edit, which is not done with this number, for this fault
pub record MissesEdit (s : SharedSheet) (old new : List Seat) (asked : AskedFor) (number : ℕ) (fault : JournalFault) : Type 0 where
  pub how : Ended EditEnd
  pub edits : (d : Seat) → Edits s asked.cell asked.text STEPS_MOST (slice_index_or old asked.process d).pass (slice_index_or new asked.process d).pass how
  pub why : IsNotDone number how fault

-- the edit that is asked for is not made, for this fault: no more edits of the process can be counted, or it is not done with the
-- next number of its process
abbrev pub IsUnmade : List ℕ → SharedSheet → List Seat → List Seat → AskedFor → JournalFault → Type 0
IsUnmade counts s old new asked fault =
    let number = slice_index_or counts asked.process 0 in
    ((number ≡ NUMBER_MOST) × (fault ≡ faults.NoEdit)) ⊎ MissesEdit s old new asked number fault

-- the line is not followed, for this fault: it is neither skipped nor an edit of the sheet, or its edit is not made
abbrev pub IsUnfollowed : Layout → List ℕ → SharedSheet → List Seat → List Seat → List ℕ → JournalFault → Type 0
IsUnfollowed layout counts s old new line fault =
    (is_skipped line ≡ false)
    × (((edit_in layout line ≡ None) × (fault ≡ faults.NoEdit)) ⊎ ((asked : AskedFor) × (edit_in layout line ≡ Some asked) × IsUnmade counts s old new asked fault))
