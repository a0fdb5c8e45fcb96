-- What calls do with what holders hold.
use Rattle.std.specs.Prelude.{ℕ, ◌≡◌, List, map, Option, Result, Vec}
use Rattle.std.specs.Arc.{arc_value}
use Rattle.std.specs.Global.{Global}
use Rattle.c_handles.specs.Handles as handles
use Rattle.ds_eval.specs.declared.value.Value.{Value}
use Rattle.ds_formula.specs.declared.cells.Cell.{Cell}
use Rattle.ds_formula.specs.Cells.{IsInside}
use Rattle.ds_shared.specs.declared.ended.Ended.{Ended}
use Rattle.ds_state.specs.declared.answer.Answer.{Answer}
use Rattle.ds_state.specs.declared.answer.Answer.TheVariants.{Edit, Work, Show, Recovery}
use Rattle.ds_state.specs.declared.show.ShowEnd.{ShowEnd}
use Rattle.ds_shared.specs.declared.pass.Pass.{Pass}
use Rattle.ds_shared.specs.declared.sheet.SharedSheet.{SharedSheet}
use Rattle.ds_shared_seats.specs.Calls.{Edits, Works, Recovers, Reports, last_of}
use Rattle.ds_shared_seats.specs.Sheets.{IsSeatOf}
use Rattle.ds_shared_seats.specs.declared.resting.RestingSheet.{RestingSheet}
use Rattle.ds_shared_seats.specs.declared.seat.Seat.{Seat}
use Rattle.ds_c.specs.declared.answer.AnswerRow.{AnswerRow}
use Rattle.ds_c.specs.declared.failure.Failure.{Failure}
use Rattle.ds_c.specs.declared.failure.Failure.TheVariants.{NoCell, WrongHolder}
use Rattle.ds_c.specs.declared.held.Held.{Held}
use Rattle.ds_c.specs.declared.held.Held.TheVariants as held
use Rattle.ds_c.specs.declared.holder.Holder.{Holder}
use Rattle.ds_c.specs.declared.rows.ValueRow.{ValueRow}
use Rattle.ds_c.specs.Answers.{ended_row}
use Rattle.ds_c.specs.Holders.{holders}
use Rattle.ds_c.specs.Rows.{value_row}

-- ---- holders

-- the call was made on what the holder held; or it holds nothing and stays, which is the failure that its number names
abbrev pub OnHolder : {R : Type 0} → (Held → Result R Failure → Held → Type 0) → (Result R Failure → ℕ → Type 0) → Holder → Holder → ℕ → Type 0
OnHolder Call Tells old new number = handles.OnHandle holders Call Tells old new number

-- the call was made on the seat that is held; or something else is, which stays and is refused
abbrev pub OnSeat : {R : Type 0} → (Seat → Result R Failure → Seat → Type 0) → Held → Result R Failure → Held → Type 0
OnSeat Call old told new = handles.OnKind held.Seat WrongHolder Call old told new

-- the call was made on the closed sheet that is held; or something else is, which stays and is refused
abbrev pub OnClosed : {R : Type 0} → (RestingSheet → Result R Failure → RestingSheet → Type 0) → Held → Result R Failure → Held → Type 0
OnClosed Call old told new = handles.OnKind held.Closed WrongHolder Call old told new

-- a content of this kind is freed, and the holder holds nothing; or something else is held, or nothing, and stays
abbrev pub FreesHeld : {P : Type 0} → (P → Held) → Holder → Holder → ℕ → Type 0
FreesHeld kind old new number = handles.Frees holders kind old new number

-- what a holder held becomes what another one holds that held nothing, by this; or that fails for a cause that holds, and
-- what it held may have become something else by that; or nothing is to be moved, or nowhere to
abbrev pub Moves : (Held → Held → Type 0) → (Held → Failure → Held → Type 0) → Holder → Holder → Holder → Holder → ℕ → Type 0
Moves Did Fails old new before after number = handles.Moves holders Did Fails old new before after number

-- ---- seats

-- the seat did this, in a call whose ends are answered so, and the row says how it ended; its values stay
pub record SeatDoes {E : Type 0} (answer : E → Answer) (Did : SharedSheet → Pass → Pass → Ended E → Type 0) (old : Seat) (row : AnswerRow) (new : Seat) : Type 0 where
  pub how : Ended E
  pub did : Did (arc_value old.sheet) old.pass new.pass how
  pub row_is : row ≡ ended_row answer how
  pub seat : IsSeatOf (arc_value old.sheet) new
  pub last : new.last ≡ old.last

-- the seat edits the cell to the text, under a fuse of this number of steps
abbrev pub SeatEdits : Cell → List ℕ → ℕ → Seat → AnswerRow → Seat → Type 0
SeatEdits cell text fuse = SeatDoes Edit (λ s p q how. IsInside s.board.layout.shape cell × Edits s cell text fuse p q how)

-- the seat works on the cell
abbrev pub SeatWorks : Cell → ℕ → Seat → AnswerRow → Seat → Type 0
SeatWorks cell fuse = SeatDoes Work (λ s p q how. IsInside s.board.layout.shape cell × Works s cell fuse p q how)

-- the seat's process recovers
abbrev pub SeatRecovers : ℕ → Seat → AnswerRow → Seat → Type 0
SeatRecovers fuse = SeatDoes Recovery (λ s p q how. Recovers s fuse p q how)

-- the seat reports, and the row says how it ended; a settled report's values are its last ones
pub record SeatReports (fuse : ℕ) (old : Seat) (row : AnswerRow) (new : Seat) : Type 0 where
  pub how : Ended ShowEnd
  pub values : Option (Vec Value Global)
  pub did : Reports (arc_value old.sheet) fuse old.pass new.pass how values
  pub row_is : row ≡ ended_row Show how
  pub seat : IsSeatOf (arc_value old.sheet) new
  pub last : new.last ≡ last_of old.last values

-- the sheet of the seat has no such cell
abbrev pub LacksCellAt : Cell → Seat → Failure → Type 0
LacksCellAt cell s NoCell = IsInside (arc_value s.sheet).board.layout.shape cell → ⊥
LacksCellAt cell s why = ⊥

-- nothing can be wrong with what is asked of a seat
abbrev pub NeverAt : Seat → Failure → Type 0
NeverAt s why = ⊥

-- the rows say the values of the seat's last report that was settled, and it stays
abbrev pub SeatShows : Seat → List ValueRow → Seat → Type 0
SeatShows old rows new = (rows ≡ map value_row old.last.items) × (new ≡ old)
