-- What a call of a session does to the seat of the process that the session has joined.
use Rattle.std.specs.Prelude.{◌≡◌, ◌⊎◌, ℕ, Option, Some, None}
use Rattle.ds_state.specs.declared.recovery.LastEdit.{LastEdit}
use Rattle.ds_shared_seats.specs.declared.seat.Seat.{Seat}
use Rattle.ds_server.specs.declared.desk.CallRefusal.TheVariants as refusals
use Rattle.ds_server.specs.DeskCalls.{Call, Get, Join, JoinAny, Last, Leave, Listing, Report, Resolve, Set, SetOnce, Undo, View}
use Rattle.ds_server.specs.Replies as said
use Rattle.ds_net_desks.specs.NumberedSeats.{CatchesUp, ChangesSeatAlone, seen_at}
use Rattle.ds_net_desks.specs.SharedDesks.{HasRecovered, HasReported, HasSet}
use Rattle.ds_net_desks.specs.declared.numbered_seat.NumberedSeat.{NumberedSeat}

-- the session has the seat of this process
abbrev pub IsSeatedAt : Option NumberedSeat → ℕ → Type 0
IsSeatedAt None process = ⊥
IsSeatedAt (Some numbered) process = numbered.seat.pass.process ≡ process

-- the seat, as it is in the newest sheet then, was used so; and what that sheet says is answered by the numbers that clients
-- know
pub record Uses (used : Seat → said.Said → Seat → Type 0) (old : NumberedSeat) (what : said.Said) (new : NumberedSeat) : Type 0 where
  pub now : NumberedSeat
  pub plain : said.Said
  pub catches_up : CatchesUp old now
  pub uses : used now.seat plain new.seat
  pub seen : what ≡ seen_at now plain
  pub rest : ChangesSeatAlone now new

-- the session has taken the seat of the process, in the newest sheet then, and all that it has used it for is a recovery, which
-- reports this last edit by the numbers that clients know
pub record HasJoined (process : ℕ) (last : Option LastEdit) (new : NumberedSeat) : Type 0 where
  pub now : NumberedSeat
  pub plain : said.Said
  pub process_is : now.seat.pass.process ≡ process
  pub recovers : HasRecovered now.seat plain new.seat
  pub seen : said.Tells last ≡ seen_at now plain
  pub rest : ChangesSeatAlone now new

-- the session has taken this seat, and its recovery reports this
abbrev pub HasTaken : NumberedSeat → said.Said → Option NumberedSeat → Type 0
HasTaken taken (said.Tells last) (Some new) = HasJoined taken.seat.pass.process last new
HasTaken taken what new = ⊥

-- a report by the session's seat; or, where it has none, by one that nobody has, which is given back
abbrev pub HasViewed : Option NumberedSeat → said.Said → Option NumberedSeat → Type 0
HasViewed (Some old) what (Some new) = Uses HasReported old what new
HasViewed None what None = (old : NumberedSeat) × (new : NumberedSeat) × Uses HasReported old what new
HasViewed old what new = ⊥

-- the session has no seat
abbrev pub HasNoSeat : Option NumberedSeat → Option NumberedSeat → Type 0
HasNoSeat old new = (old ≡ None) × (new ≡ None)

-- the call is refused, since the edits of a sheet alone are not listed
abbrev pub HasNoList : Option NumberedSeat → said.Said → Option NumberedSeat → Type 0
HasNoList old what new = (new ≡ old) × (what ≡ said.Refused refusals.NoHistory)

-- what a call that was answered so does to the session's seat, if it has joined a process. A join takes one where there
-- was none, of the process or of any, and answers what the process's recovery reports; it is refused only since the process is
-- taken. A set is an edit of the call's cell to the call's text; a report comes after works alone; last is a recovery. A process
-- that is given back takes it along. Nothing else changes it
abbrev pub SeatDeals : Option NumberedSeat → Call → said.Said → Option NumberedSeat → Type 0
SeatDeals old (Join p) (said.Joined q last) (Some new) = (old ≡ None) × (q ≡ p) × HasJoined p last new
SeatDeals old (Join p) (said.Refused why) new = (new ≡ old) × (why ≡ refusals.ProcessTaken)
SeatDeals old JoinAny (said.Joined q last) (Some new) = (old ≡ None) × HasJoined q last new
SeatDeals old JoinAny (said.Refused why) new = (new ≡ old) × (why ≡ refusals.ProcessTaken)
SeatDeals (Some old) (Set p cell text) what (Some new) = Uses (λ seat plain after. HasSet seat cell text plain after) old what new
SeatDeals (Some old) (Report p) what (Some new) = Uses HasReported old what new
SeatDeals old (View joined) what new = HasViewed old what new ⊎ (HasNoSeat old new × (what ≡ said.Refused refusals.ProcessTaken))
SeatDeals (Some old) (Last p) what (Some new) = Uses HasRecovered old what new
SeatDeals old (SetOnce p cell text key) what new = HasNoList old what new
SeatDeals old (Undo p cell) what new = HasNoList old what new
SeatDeals old (Get joined cell) what new = HasNoList old what new
SeatDeals old (Listing from most) what new = HasNoList old what new
SeatDeals old (Resolve key) what new = HasNoList old what new
SeatDeals old (Leave p) said.Left new = new ≡ None
SeatDeals old call what new = ⊥
