-- What a call of a session over a shared sheet does to the seat of the session's process.
use Rattle.std.specs.Prelude.{◌≡◌, ◌⊎◌, ℕ, List, Option, Some, None, Vec}
use Rattle.std.specs.Global.{Global}
use Rattle.std.specs.Arc.{arc_value}
use Rattle.ds_formula.specs.declared.cells.Cell.{Cell}
use Rattle.ds_formula.specs.Cells.{IsInside}
use Rattle.ds_eval.specs.declared.value.Value.{Value}
use Rattle.ds_state.specs.declared.answer.EditEnd.{EditEnd}
use Rattle.ds_state.specs.declared.answer.EditEnd.TheVariants as edit_ends
use Rattle.ds_state.specs.declared.work.WorkEnd.{WorkEnd}
use Rattle.ds_state.specs.declared.work.WorkEnd.TheVariants as work_ends
use Rattle.ds_state.specs.declared.recovery.RecoveryEnd.{RecoveryEnd}
use Rattle.ds_state.specs.declared.recovery.RecoveryEnd.TheVariants as recovery_ends
use Rattle.ds_state.specs.declared.show.ShowEnd.{ShowEnd}
use Rattle.ds_state.specs.declared.show.ShowEnd.TheVariants as show_ends
use Rattle.ds_shared.specs.declared.ended.Ended.{Ended}
use Rattle.ds_shared.specs.declared.ended.Ended.TheVariants.{Answered, Refused, Stopped}
use Rattle.ds_shared.specs.declared.sheet.SharedSheet.{SharedSheet}
use Rattle.ds_shared_seats.specs.Calls.{Edits, Works, Recovers, Reports, last_of}
use Rattle.ds_shared_seats.specs.Sheets.{IsSeatOf}
use Rattle.ds_shared_seats.specs.declared.seat.Seat.{Seat}
use Rattle.ds_server.specs.declared.desk.CallRefusal.{CallRefusal}
use Rattle.ds_server.specs.declared.desk.CallRefusal.TheVariants as refusals
use Rattle.ds_server.specs.WorldDesks.{refused_by}
use Rattle.ds_server.specs.Replies as said

-- how many steps a call of a session may take: as many as are counted
abbrev pub STEPS_MOST : ℕ
STEPS_MOST = 18446744073709551615

-- the sheet of a seat
abbrev pub sheet_of : Seat → SharedSheet
sheet_of seat = arc_value seat.sheet

-- what is said where a call was stopped
abbrev pub broken : said.Said
broken = said.Refused refusals.Stopped

-- what is said to an edit that ended so
abbrev pub set_said : Ended EditEnd → said.Said
set_said (Answered (edit_ends.Done number)) = said.Done number
set_said (Answered (edit_ends.Overtaken number by)) = said.Overtaken number by
set_said (Refused why) = said.Refused (refused_by why)
set_said Stopped = broken

-- what is said to a recovery that ended so
abbrev pub last_said : Ended RecoveryEnd → said.Said
last_said (Answered (recovery_ends.Last resolved)) = said.Tells (Some resolved)
last_said (Answered recovery_ends.Nothing) = said.Tells None
last_said (Refused why) = said.Refused (refused_by why)
last_said Stopped = broken

-- what is said to a report that ended so, where these are the values that the seat kept then
abbrev pub report_said : Ended ShowEnd → List Value → said.Said
report_said (Answered show_ends.Settled) values = said.Settled values
report_said (Answered (show_ends.Unsettled place word)) values = said.Unsettled place word
report_said (Refused why) values = said.Refused (refused_by why)
report_said Stopped values = broken

-- the seat has come from the first one by works alone, each on a cell of the sheet; it keeps the values that it kept
pub data HasWorked (s : SharedSheet) (first : Seat) : Seat → Type 0 where
  rests : HasWorked s first first
  goes_on : (seat new : Seat) (cell : Cell) (how : Ended WorkEnd) → HasWorked s first seat → Works s cell STEPS_MOST seat.pass new.pass how → IsSeatOf s new → new.last ≡ seat.last → HasWorked s first new

-- a work that ended so breaks a settle off, for this cause: it was refused, it was stopped, or it was out of memory
abbrev pub FitsCause : Ended WorkEnd → CallRefusal → Type 0
FitsCause (Answered work_ends.NoMemory) why = why ≡ refusals.NoMemory
FitsCause (Answered end) why = ⊥
FitsCause (Refused cause) why = why ≡ refused_by cause
FitsCause Stopped why = why ≡ refusals.Stopped

-- the seat has come from the first one by works alone, the last of which breaks the settle off for this cause
pub record BreaksOff (s : SharedSheet) (first new : Seat) (why : CallRefusal) : Type 0 where
  pub before : Seat
  pub cell : Cell
  pub how : Ended WorkEnd
  pub worked : HasWorked s first before
  pub works : Works s cell STEPS_MOST before.pass new.pass how
  pub cause : FitsCause how why

-- the seat was used for one call more, an edit of this cell to this text, and this is said of it; or its sheet has no such
-- cell: then it is refused as a process of another sheet, and the seat is as it was
pub record HasSet (seat : Seat) (cell : Cell) (text : List ℕ) (what : said.Said) (new : Seat) : Type 0 where
  pub edits : ((how : Ended EditEnd) × Edits (sheet_of seat) cell text STEPS_MOST seat.pass new.pass how × (what ≡ set_said how)) ⊎ ((new ≡ seat) × (IsInside (sheet_of seat).board.layout.shape cell → ⊥) × (what ≡ said.Refused refusals.ProcessTaken))

-- the seat was used for works, and then for a report of which this is said, with its values where it is settled; or one of
-- the works broke off, and the report is refused for its cause
pub record HasReported (seat : Seat) (what : said.Said) (new : Seat) : Type 0 where
  pub worked : Seat
  pub works : HasWorked (sheet_of seat) seat worked
  pub reports : ((how : Ended ShowEnd) × (values : Option (Vec Value Global)) × Reports (sheet_of seat) STEPS_MOST worked.pass new.pass how values × (what ≡ report_said how (last_of worked.last values).items)) ⊎ ((new ≡ worked) × ((why : CallRefusal) × (what ≡ said.Refused why) × BreaksOff (sheet_of seat) seat worked why))

-- the seat was used for one call more, a recovery, and this is said of it
pub record HasRecovered (seat : Seat) (what : said.Said) (new : Seat) : Type 0 where
  pub how : Ended RecoveryEnd
  pub recovers : Recovers (sheet_of seat) STEPS_MOST seat.pass new.pass how
  pub says : what ≡ last_said how
