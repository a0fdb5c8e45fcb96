-- What is read of closed sheets, and their crashes.
use Rattle.std.specs.Prelude.{ℕ, ◌≡◌, ◌<◌, ◌≤◌, List, [], length, Result, Ok, Err}
use Rattle.std.specs.Mem.Slots.{slots_items}
use Rattle.ds_formula.specs.declared.cells.Cell.{Cell}
use Rattle.ds_formula.specs.Cells.{IsInside, index_of}
use Rattle.ds_layout.specs.declared.place.Place.{Place}
use Rattle.ds_layout.specs.Places.{words_of}
use Rattle.ds_layout.specs.SheetMemory.{memory_at}
use Rattle.ds_words.specs.Memory.{Memory}
use Rattle.ds_state.specs.Shown.{mark_at, value_at}
use Rattle.pm_board.specs.Table.{two_sided}
use Rattle.ds_structure.specs.Sheet.{apart_of}
use Rattle.ds_shared.specs.declared.sheet.ClosedSheet.{ClosedSheet}
use Rattle.ds_shared_seats.specs.Resting.{Crashes, IsTextIn}
use Rattle.ds_shared_seats.specs.declared.resting.RestingSheet.{RestingSheet}
use Rattle.ds_c.specs.declared.failure.Failure.{Failure}
use Rattle.ds_c.specs.declared.failure.Failure.TheVariants.{Empty, NoCell, NoMemory, TooSmall, WrongHolder}
use Rattle.ds_c.specs.declared.rows.MarkRow.{MarkRow}
use Rattle.ds_c.specs.declared.rows.SizeRow.{SizeRow}
use Rattle.ds_c.specs.declared.rows.ValueRow.{ValueRow}
use Rattle.ds_c.specs.Failures.{failure_number}
use Rattle.ds_c.specs.Rows.{mark_row, size_row, value_row}

-- what the words of a closed sheet hold
abbrev pub words_in : ClosedSheet → Memory Place
words_in c = memory_at c.layout (two_sided (apart_of c.layout) (slots_items c.words.table.words) (λ q. []))

-- the row says how large the sheet is, which stays
abbrev pub ClosedSize : RestingSheet → SizeRow → RestingSheet → Type 0
ClosedSize old row new = (row ≡ size_row old.sheet.layout) × (new ≡ old)

-- the row says the value of the cell, and the sheet stays
abbrev pub ClosedValue : Cell → RestingSheet → ValueRow → RestingSheet → Type 0
ClosedValue cell old row new = IsInside old.sheet.layout.shape cell × (row ≡ value_row (value_at old.sheet.layout (words_in old.sheet) (index_of old.sheet.layout.shape cell))) × (new ≡ old)

-- the row says the mark of the cell, and the sheet stays
abbrev pub ClosedMark : Cell → RestingSheet → MarkRow → RestingSheet → Type 0
ClosedMark cell old row new = IsInside old.sheet.layout.shape cell × (row ≡ mark_row (mark_at old.sheet.layout (words_in old.sheet) (index_of old.sheet.layout.shape cell))) × (new ≡ old)

-- the bytes are the text of the cell, and the sheet stays
abbrev pub ClosedText : Cell → RestingSheet → List ℕ → RestingSheet → Type 0
ClosedText cell old bytes new = IsInside old.sheet.layout.shape cell × IsTextIn old.sheet cell bytes × (new ≡ old)

-- a crash comes, before which the chosen words were evicted, and the number of words is given; or the choice is too short,
-- which that number tells; or an allocation failed
pub data CrashesClosed (choice : List ℕ) (before after : ℕ) (old : RestingSheet) (told : Result (Unit {0}) Failure) (new : RestingSheet) : Type 0 where
  crashed : told ≡ Ok tt → Crashes choice old.sheet new.sheet → after ≡ words_of old.sheet.layout → CrashesClosed choice before after old told new
  short : told ≡ Err TooSmall → length choice < words_of old.sheet.layout → new ≡ old → after ≡ words_of old.sheet.layout → CrashesClosed choice before after old told new
  memory : told ≡ Err NoMemory → words_of old.sheet.layout ≤ length choice → new ≡ old → after ≡ before → CrashesClosed choice before after old told new

-- what the caller gets of a crash: a number; where no closed sheet is held the number of words stays as it was
abbrev pub TellsCrash : ℕ → ℕ → Result (Unit {0}) Failure → ℕ → Type 0
TellsCrash before after (Ok told) number = number ≡ 0
TellsCrash before after (Err Empty) number = (after ≡ before) × (number ≡ failure_number Empty)
TellsCrash before after (Err WrongHolder) number = (after ≡ before) × (number ≡ failure_number WrongHolder)
TellsCrash before after (Err why) number = number ≡ failure_number why

-- ---- why it is not made

-- the sheet has no such cell
abbrev pub LacksClosedCell : Cell → RestingSheet → Failure → Type 0
LacksClosedCell cell c NoCell = IsInside c.sheet.layout.shape cell → ⊥
LacksClosedCell cell c why = ⊥

-- the sheet has no such cell, or an allocation failed
abbrev pub LacksClosedText : Cell → RestingSheet → Failure → Type 0
LacksClosedText cell c NoCell = IsInside c.sheet.layout.shape cell → ⊥
LacksClosedText cell c NoMemory = IsInside c.sheet.layout.shape cell
LacksClosedText cell c why = ⊥

-- nothing can be wrong with what is asked of a closed sheet
abbrev pub NeverClosed : RestingSheet → Failure → Type 0
NeverClosed c why = ⊥
