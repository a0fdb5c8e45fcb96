-- What calls do with what holders hold.
use Rattle.std.specs.Prelude.{ℕ, ◌≡◌, ◌≤◌, true, Option, Result}
use Rattle.std.specs.Arc.{arc_value}
use Rattle.c_handles.specs.Calls.{Tells}
use Rattle.c_handles.specs.Handles as handles
use Rattle.pq.specs.declared.calls.Ended.{Ended}
use Rattle.pq_shared.specs.declared.calls.Recovery.{Recovery}
use Rattle.pq_seats.specs.Calls.{Dequeues, Enqueues, Recovers}
use Rattle.pq_seats.specs.declared.resting.RestingQueue.{RestingQueue}
use Rattle.pq_seats.specs.declared.seat.Seat.{Seat}
use Rattle.pq_c.specs.declared.answer.AnswerRow.{AnswerRow}
use Rattle.pq_c.specs.declared.failure.Failure.{Failure}
use Rattle.pq_c.specs.declared.failure.Failure.TheVariants.{Spent, Stopped, WrongHolder}
use Rattle.pq_c.specs.declared.held.Held.{Held}
use Rattle.pq_c.specs.declared.held.Held.TheVariants as held
use Rattle.pq_c.specs.declared.holder.Holder.{Holder}
use Rattle.pq_c.specs.Answers.{ended_row, recovery_row}
use Rattle.pq_c.specs.Failures.{failure_number}
use Rattle.pq_c.specs.Holders.{holders}

-- ---- holders

-- the call was made on what the holder held; or it holds nothing and stays, which is the failure that its number names
abbrev pub OnHolder : {R : Type 0} → (Held → Result R Failure → Held → Type 0) → (Result R Failure → ℕ → Type 0) → Holder → Holder → ℕ → Type 0
OnHolder Call Answered old new number = handles.OnHandle holders Call Answered old new number

-- what the caller gets of an answer: its row, and the number of the status
abbrev pub Answers : AnswerRow → AnswerRow → Result AnswerRow Failure → ℕ → Type 0
Answers before after answered number = Tells failure_number before after answered number

-- the call was made on the seat that is held; or something else is, which stays and is refused
abbrev pub OnSeat : {R : Type 0} → (Seat → Result R Failure → Seat → Type 0) → Held → Result R Failure → Held → Type 0
OnSeat Call old answered new = handles.OnKind held.Seat WrongHolder Call old answered new

-- the call was made on the closed queue that is held; or something else is, which stays and is refused
abbrev pub OnClosed : {R : Type 0} → (RestingQueue → Result R Failure → RestingQueue → Type 0) → Held → Result R Failure → Held → Type 0
OnClosed Call old answered new = handles.OnKind held.Closed WrongHolder Call old answered new

-- a content of this kind is freed, and the holder holds nothing; or something else is held, or nothing, and stays
abbrev pub FreesHeld : {P : Type 0} → (P → Held) → Holder → Holder → ℕ → Type 0
FreesHeld kind old new number = handles.Frees holders kind old new number

-- what a holder held becomes what another one holds that held nothing, by this; or that fails for a cause that holds, and
-- what it held may have become something else by that; or nothing is to be moved, or nowhere to
abbrev pub Moves : (Held → Held → Type 0) → (Held → Failure → Held → Type 0) → Holder → Holder → Holder → Holder → ℕ → Type 0
Moves Did Fails old new before after number = handles.Moves holders Did Fails old new before after number

-- ---- seats

-- the seat enqueued the value by its next operation, under a fuse of this number of steps, and the row says how that ended
pub record SeatEnqueues (value fuse : ℕ) (old : Seat) (row : AnswerRow) (new : Seat) : Type 0 where
  pub how : Option Ended
  pub did : Enqueues (arc_value old.board).key value fuse old.pass new.pass how
  pub row_is : row ≡ ended_row old.pass.next how
  pub queue_is : arc_value new.board ≡ arc_value old.board

-- the seat dequeued by its next operation
pub record SeatDequeues (fuse : ℕ) (old : Seat) (row : AnswerRow) (new : Seat) : Type 0 where
  pub how : Option Ended
  pub did : Dequeues (arc_value old.board).key fuse old.pass new.pass how
  pub row_is : row ≡ ended_row old.pass.next how
  pub queue_is : arc_value new.board ≡ arc_value old.board

-- the seat's process recovered, and the row says what was found of its last operation
pub record SeatRecovers (fuse : ℕ) (old : Seat) (row : AnswerRow) (new : Seat) : Type 0 where
  pub how : Option Recovery
  pub did : Recovers (arc_value old.board).key fuse old.pass new.pass how
  pub row_is : row ≡ recovery_row old.pass.process how
  pub queue_is : arc_value new.board ≡ arc_value old.board

-- the seat begins no operation: its process has to recover, or has no operation left
abbrev pub BeginsNot : Seat → Failure → Type 0
BeginsNot s Stopped = s.pass.stopped ≡ true
BeginsNot s Spent = 1024 ≤ s.pass.next
BeginsNot s why = ⊥

-- nothing can be wrong with what is asked of a seat
abbrev pub NeverAt : Seat → Failure → Type 0
NeverAt s why = ⊥
