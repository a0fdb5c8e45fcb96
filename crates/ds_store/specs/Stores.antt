-- What a store keeps, and the sheet that is made of it.
use Rattle.std.specs.Prelude.{◌≡◌, ◌≢◌, ◌<◌, false, ℕ, List, [], ◌∷◌, ◌++◌, length, slice_index_or}
use Rattle.ds_layout.specs.declared.layout.Layout.{Layout}
use Rattle.ds_state.specs.declared.answer.EditEnd.TheVariants.{Done}
use Rattle.ds_structure_shared.specs.Boards.{new_words}
use Rattle.ds_shared.specs.declared.ended.Ended.TheVariants.{Answered}
use Rattle.ds_shared.specs.declared.sheet.SharedSheet.{SharedSheet}
use Rattle.ds_shared.specs.Answers.{IsFresh, opened_with}
use Rattle.ds_shared_seats.specs.declared.seat.Seat.{Seat}
use Rattle.ds_shared_seats.specs.Calls.{Edits}
use Rattle.ds_shared_seats.specs.Sheets.{IsSeatOf}
use Rattle.ds_store_journal.specs.Journals.{AreCounts, IsJournal, KeptEdit, SheetSize}
use Rattle.ds_store_keys.specs.Keys.{KeptKey, keys_of}
use Rattle.ds_store_table.specs.Tables.{MayHold}
use Rattle.sqlite.specs.Tree.{Trees}

-- ---- the sheet

-- the largest number of a process's edit through all sheets
abbrev pub NUMBER_MOST : ℕ
NUMBER_MOST = 18446744073709551615

-- how many steps a call may take that no fuse stops
abbrev pub STEPS_MOST : ℕ
STEPS_MOST = 18446744073709551615

-- each process of the sheet has its seat, in order
pub record AreSeated (s : SharedSheet) (seats : List Seat) : Type 0 where
  pub count : length seats ≡ s.board.layout.processes
  pub of : (process : ℕ) (d : Seat) → process < length seats → IsSeatOf s (slice_index_or seats process d)
  pub process_is : (process : ℕ) (d : Seat) → process < length seats → (slice_index_or seats process d).pass.process ≡ process

-- no seat has begun a call
abbrev pub AreFresh : List Seat → Type 0
AreFresh seats = (process : ℕ) (d : Seat) → process < length seats → IsFresh false (slice_index_or seats process d).pass

-- the seat of its process has made the edit, and was answered Done with its number; the other seats are as they were
pub record MakesEdit (s : SharedSheet) (old : List Seat) (edit : KeptEdit) (new : List Seat) : Type 0 where
  pub there : edit.process < length old
  pub edits : (d : Seat) → Edits s edit.cell edit.text STEPS_MOST (slice_index_or old edit.process d).pass (slice_index_or new edit.process d).pass (Answered (Done edit.number))
  pub others : (process : ℕ) (d : Seat) → process ≢ edit.process → slice_index_or new process d ≡ slice_index_or old process d

-- the seats have made these edits, one after another, and nothing else
pub data HaveMade (s : SharedSheet) (first : List Seat) : List KeptEdit → List Seat → Type 0 where
  none : HaveMade s first [] first
  one : (edits : List KeptEdit) (edit : KeptEdit) (old new : List Seat) → HaveMade s first edits old → MakesEdit s old edit new → HaveMade s first (edits ++ edit ∷ []) new

-- the sheet is a new one of this layout, on which its seats have made these edits one after another, and nothing else
pub record IsMadeBy (layout : Layout) (edits : List KeptEdit) (s : SharedSheet) (seats : List Seat) : Type 0 where
  pub layout_is : s.board.layout ≡ layout
  pub words : opened_with s ≡ new_words layout
  pub first : List Seat
  pub fresh : AreFresh first
  pub seated : AreSeated s first
  pub made : HaveMade s first edits seats

-- ---- the store

-- the lines are a journal of these edits, and the counts are those of the edits
pub record GoesOn (layout : Layout) (counts : List ℕ) (lines : List (List ℕ)) (edits : List KeptEdit) : Type 0 where
  pub journal : IsJournal layout lines edits
  pub counts_are : AreCounts counts edits

-- the lines lead to this sheet: they are a journal, whose edits have made it
pub record LeadsTo (layout : Layout) (counts : List ℕ) (s : SharedSheet) (seats : List Seat) (lines : List (List ℕ)) : Type 0 where
  pub edits : List KeptEdit
  pub goes_on : GoesOn layout counts lines edits
  pub made : IsMadeBy layout edits s seats

-- the size of a store's sheet as its clients see it: with the processes that they may join
abbrev pub size_seen : Layout → ℕ → SheetSize
size_seen layout joins = record { columns = layout.shape.columns; rows = layout.shape.rows; processes = joins }

-- the trees of a database that has these lines, and after them some that keep these edits and these keys
pub record MayKeep (layout : Layout) (held : List (List ℕ)) (kept edits : List KeptEdit) (keys : List KeptKey) (trees : Trees) : Type 0 where
  pub lines : List (List ℕ)
  pub journal : IsJournal layout (held ++ lines) (kept ++ edits)
  pub keys_are : keys_of layout (held ++ lines) ≡ keys_of layout held ++ keys
  pub holds : MayHold (held ++ lines) trees
