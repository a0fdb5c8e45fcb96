-- What the calls of a session over a shared sheet do to its seat.
use Rattle.std.proofs.Common.{◌≡◌, ◌∙◌, ◌⊎◌, ◌<◌, ◌≤◌, ◌+◌, ◌*◌, arith, inl, inr, refl, sym, ap, subst, ℕ, List, Option, Result, Ok, Err, IfOk, IfErr}
use Rattle.std.specs.Prelude.{Vec}
use Rattle.std.proofs.Math.Nat.{mul-le-mul_right}
use Rattle.std.specs.Result.{IsErrAnd, IsOkAnd}
use Rattle.std.specs.Global.{Global}
use Rattle.ds_formula.specs.declared.cells.Cell.{Cell}
use Rattle.ds_formula.specs.Cells.{IsInside}
use Rattle.ds_eval.specs.declared.value.Value.{Value}
use Rattle.ds_state.specs.declared.show.ShowEnd.{ShowEnd}
use Rattle.ds_state.specs.declared.work.WorkEnd.{WorkEnd}
use Rattle.ds_state.specs.declared.recovery.RecoveryEnd.{RecoveryEnd}
use Rattle.ds_state.specs.declared.recovery.RecoveryEnd.TheVariants as recovery_ends
use Rattle.ds_layout.specs.Places.{cells_of}
use Rattle.ds_shared.specs.declared.ended.Ended.{Ended}
use Rattle.ds_shared.specs.declared.ended.Ended.TheVariants.{Answered, Stopped}
use Rattle.ds_shared.specs.declared.ended.Ended.TheVariants as ended
use Rattle.ds_shared.specs.declared.pass.Pass.{Pass}
use Rattle.ds_shared.specs.declared.sheet.SharedSheet.{SharedSheet}
use Rattle.ds_shared_seats.specs.Calls.{Edits, Recovers, Reports, Works, last_of}
use Rattle.ds_shared_seats.specs.Sheets.{IsSeatOf, LacksCell}
use Rattle.ds_shared_seats.specs.declared.fault.Fault.{Fault}
use Rattle.ds_shared_seats.specs.declared.fault.Fault.TheVariants.{NoProcess, NoCell, SeatTaken, ShortChoice, NoMemory}
use Rattle.ds_shared_seats.specs.declared.seat.Seat.{Seat}
use Rattle.ds_server.specs.declared.desk.CallRefusal.{CallRefusal}
use Rattle.ds_server.specs.declared.desk.Reported.{Reported}
use Rattle.ds_server.specs.Replies.{Said, Refused, report_view}
use Rattle.ds_server.specs.declared.desk.CallRefusal.TheVariants.{ProcessTaken}
use Rattle.ds_server.specs.declared.desk.Reported.TheVariants as reports
use Rattle.ds_state.specs.declared.answer.EditEnd.{EditEnd}
use Rattle.ds_net_desks.specs.declared.numbering.Numbering.{Numbering}
use Rattle.ds_net_desks.specs.Counting.{seen_by}
use Rattle.ds_net_desks.specs.StoredDesks.{Heard, StoredSet}
use Rattle.ds_net_desks.specs.SharedDesks.{BreaksOff, FitsCause, HasRecovered, HasReported, HasSet, HasWorked, STEPS_MOST, goes_on, last_said, report_said, rests, set_said, sheet_of}

-- one work more, or none
pub one_more : (s : SharedSheet) (first seat new : Seat) (cell : Cell) (r : Result (Ended WorkEnd) Fault) → HasWorked s first seat → IsSeatOf s seat
    → IfOk r (λ how. IsInside (sheet_of seat).board.layout.shape cell × Works (sheet_of seat) cell STEPS_MOST seat.pass new.pass how)
    → IfErr r (λ why. LacksCell (sheet_of seat) cell why × (new ≡ seat)) → IsSeatOf (sheet_of seat) new × (new.last ≡ seat.last) → HasWorked s first new
one_more s first seat new cell (Ok how) before of made err same =
    goes_on seat new cell how before (subst (λ t. Works t cell STEPS_MOST seat.pass new.pass how) of made.1) (same.0 ∙ of) same.1
one_more s first seat new cell (Err why) before of made err same = subst (HasWorked s first) (sym err.1) before

-- works after works
both : (s : SharedSheet) (first mid new : Seat) → HasWorked s first mid → HasWorked s mid new → HasWorked s first new
both s first mid new before rests = before
both s first mid new before (goes_on seat n cell how later works of kept) = goes_on seat new cell how (both s first mid seat before later) works of kept

-- a work after these works breaks the settle off
pub breaks : (s : SharedSheet) (first seat new : Seat) (cell : Cell) (r : Result (Ended WorkEnd) Fault) (why : CallRefusal) → HasWorked s first seat → IsSeatOf s seat
    → IfOk r (λ how. IsInside (sheet_of seat).board.layout.shape cell × Works (sheet_of seat) cell STEPS_MOST seat.pass new.pass how)
    → IsOkAnd r (λ how. FitsCause how why) → BreaksOff s first new why
breaks s first seat new cell (Ok how) why before of made cause = record {
  before = seat;
  cell = cell;
  how = how;
  worked = before;
  works = subst (λ t. Works t cell STEPS_MOST seat.pass new.pass how) of made.1;
  cause = cause;
}
breaks s first seat new cell (Err fault) why before of made cause = absurd cause

-- the same, of works on the seat's own sheet
pub works_after : (s : SharedSheet) (first mid new : Seat) → HasWorked s first mid → IsSeatOf s mid → HasWorked (sheet_of mid) mid new → HasWorked s first new
works_after s first mid new before of works = both s first mid new before (subst (λ t. HasWorked t mid new) of works)

-- the same, where the last one breaks the settle off
pub breaks_after : (s : SharedSheet) (first mid new : Seat) (why : CallRefusal) → HasWorked s first mid → IsSeatOf s mid → BreaksOff (sheet_of mid) mid new why → BreaksOff s first new why
breaks_after s first mid new why worked of h = record {
  before = h.before;
  cell = h.cell;
  how = h.how;
  worked = works_after s first mid h.before worked of h.worked;
  works = subst (λ t. Works t h.cell STEPS_MOST h.before.pass new.pass h.how) of h.works;
  cause = h.cause;
}

-- works leave the sheet of a seat
pub same_sheet : (s : SharedSheet) (first new : Seat) → IsSeatOf s first → HasWorked s first new → IsSeatOf s new
same_sheet s first new of rests = of
same_sheet s first new of (goes_on seat n cell how before works is kept) = is

-- works leave its process
same_process : (s : SharedSheet) (first new : Seat) → HasWorked s first new → new.pass.process ≡ first.pass.process
same_process s first new rests = refl
same_process s first new (goes_on seat n cell how before works is kept) = works.goes.process ∙ same_process s first seat before

-- a fault of a call is that the sheet has no such cell
pub lacks : (s : SharedSheet) (cell : Cell) (why : Fault) → LacksCell s cell why → IsInside s.board.layout.shape cell → ⊥
lacks s cell NoCell h = h
lacks s cell NoProcess h = absurd h
lacks s cell SeatTaken h = absurd h
lacks s cell ShortChoice h = absurd h
lacks s cell NoMemory h = absurd h

-- an error that is handed on is that of the settle that broke off
pub broke : {T : Type 0} (s : SharedSheet) (first new : Seat) (r : Result T CallRefusal) (e : CallRefusal) → IsErrAnd r (λ why. why ≡ e) → BreaksOff s first new e → IfErr r (BreaksOff s first new)
broke s first new (Ok x) e h breaks = absurd h
broke s first new (Err why) e h breaks = subst (BreaksOff s first new) (sym h) breaks

-- a settle that broke off is said so
pub refused_is : (s : SharedSheet) (first new : Seat) (r : Result Reported CallRefusal) (e : CallRefusal) → IsErrAnd r (λ why. why ≡ e) → BreaksOff s first new e
    → (why : CallRefusal) × (report_view r ≡ Refused why) × BreaksOff s first new why
refused_is s first new (Ok end) e h breaks = absurd h
refused_is s first new (Err why) e h breaks = (why, refl, subst (BreaksOff s first new) (sym h) breaks)

-- a recovery takes fewer steps than a session's call may take
few : (n : ℕ) → n ≤ 1024 → n * (3 * n + 30) + 23 < STEPS_MOST
few n low = let a : n * (3 * n + 30) ≤ 1024 * (3 * n + 30) = mul-le-mul_right (3 * n + 30) low in omega (arith, low, a)

-- so it is answered
recovery_is_answered : (s : SharedSheet) (old new : Pass) (how : Ended RecoveryEnd) (why : CallRefusal) → Recovers s STEPS_MOST old new how → last_said how ≡ Refused why → ⊥
recovery_is_answered s old new (Answered (recovery_ends.Last edit)) why h is = cc
recovery_is_answered s old new (Answered recovery_ends.Nothing) why h is = cc
recovery_is_answered s old new (ended.Refused cause) why h is = h.refused
recovery_is_answered s old new Stopped why h is =
    let n = cells_of s.board.layout in
    let low : n ≤ 1024 = s.board.layout.shape.within.cells_to_1024 in
    omega (arith, h.goes.steps, h.goes.all, h.short, few n low)

-- so it tells what the last edit was
pub recovered_tells : (seat new : Seat) (why : CallRefusal) → HasRecovered seat (Refused why) new → ⊥
recovered_tells seat new why h = recovery_is_answered (sheet_of seat) seat.pass new.pass h.how why h.recovers (sym h.says)

-- an edit leaves the process of a seat
pub set_process : (seat new : Seat) (cell : Cell) (text : List ℕ) (what : Said) → HasSet seat cell text what new → new.pass.process ≡ seat.pass.process
set_process seat new cell text what h = go h.edits where
  go : ((how : Ended EditEnd) × Edits (sheet_of seat) cell text STEPS_MOST seat.pass new.pass how × (what ≡ set_said how)) ⊎ ((new ≡ seat) × (IsInside (sheet_of seat).board.layout.shape cell → ⊥) × (what ≡ Refused ProcessTaken))
      → new.pass.process ≡ seat.pass.process
  go (inl k) = k.1.goes.process
  go (inr k) = ap (λ (s : Seat). s.pass.process) k.0

-- so does one of which the keeper of a store may hear
pub stored_process : (before after : Heard) (seat new : Seat) (cell : Cell) (text : List ℕ) (what plain : Said) → StoredSet before cell text after what seat plain new → new.pass.process ≡ seat.pass.process
stored_process before after seat new cell text what plain (inl h, heard) = set_process seat new cell text plain h
stored_process before after seat new cell text what plain (inr h, heard) = ap (λ (s : Seat). s.pass.process) h.0

-- a report leaves the process of a seat
pub reported_process : (seat new : Seat) (what : Said) → HasReported seat what new → new.pass.process ≡ seat.pass.process
reported_process seat new what h = go h.reports ∙ same_process (sheet_of seat) seat h.worked h.works where
  go : ((how : Ended ShowEnd) × (values : Option (Vec Value Global)) × Reports (sheet_of seat) STEPS_MOST h.worked.pass new.pass how values × (what ≡ report_said how (last_of h.worked.last values).items)) ⊎ ((new ≡ h.worked) × ((why : CallRefusal) × (what ≡ Refused why) × BreaksOff (sheet_of seat) seat h.worked why))
      → new.pass.process ≡ h.worked.pass.process
  go (inl k) = k.2.goes.process
  go (inr k) = ap (λ (s : Seat). s.pass.process) k.0

-- what is said to a report has no number of an edit
pub report_seen : (numberings : List Numbering) (process : ℕ) (r : Result Reported CallRefusal) → report_view r ≡ seen_by numberings process (report_view r)
report_seen numberings process (Ok (reports.Settled values)) = refl
report_seen numberings process (Ok (reports.Unsettled place word)) = refl
report_seen numberings process (Err why) = refl
