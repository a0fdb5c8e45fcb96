-- What a pass has asked of the sheet: events, each with its reply, in order.
use Rattle.std.specs.Prelude.{ℕ, suc, ◌≡◌, ◌⊎◌, List, [], ◌∷◌, ◌++◌, All}
use Rattle.ds_formula.specs.declared.cells.Cell.{Cell}
use Rattle.ds_formula.specs.declared.cells.Shape.{Shape}
use Rattle.ds_formula.specs.Cells.{cell_at, count_of}
use Rattle.ds_state.specs.declared.answer.Answer.TheVariants as answers
use Rattle.ds_state.specs.declared.refusal.Refusal.TheVariants.{Stopped}
use Rattle.ds_state.specs.declared.work.WorkEnd.{WorkEnd}
use Rattle.ds_state.specs.declared.work.WorkEnd.TheVariants.{NoMemory}
use Rattle.ds_core.specs.declared.event.Event.{Event}
use Rattle.ds_core.specs.declared.event.Event.TheVariants.{BeginWork, BeginRecover, Step, Offer, Stop}
use Rattle.ds_core.specs.declared.reply.Reply.{Reply}
use Rattle.ds_core.specs.declared.reply.Reply.TheVariants.{Answered, NotEnabled, Refused}
use Rattle.ds_crew.specs.Kept.{IsEntry, HasWorked}
use Rattle.ds_crew.specs.declared.steps.Call.{Call}
use Rattle.ds_crew.specs.declared.steps.Call.TheVariants.{Work, Recovery}
use Rattle.ds_crew.specs.declared.ended.Worked.{Worked}
use Rattle.ds_crew.specs.declared.ended.Worked.TheVariants as worked

-- events with their replies, in order
abbrev pub Trail : Type 0
Trail = List (Event × Reply)

-- one event more, with this reply
abbrev pub and_event : Trail → Event → Reply → Trail
and_event trail event reply = trail ++ (event, reply) ∷ []

-- by this reply no call has ended
abbrev pub IsNoAnswer : Reply → Type 0
IsNoAnswer (Answered answer) = ⊥
IsNoAnswer reply = Unit {0}

-- the process goes on with its call by this event: by its own step, or, in work, by the offer of an entry
abbrev pub IsOfCall : Call → ℕ → Event → Type 0
IsOfCall call process (Step p) = p ≡ process
IsOfCall Work process (Offer value) = Unit {0}
IsOfCall call process event = ⊥

-- the trail goes on by events of the process's call alone, none of which ends it
pub record GoesOn (call : Call) (process : ℕ) (old new : Trail) : Type 0 where
  pub more : Trail
  pub is : new ≡ old ++ more
  pub each : All (λ e. IsOfCall call process e.0 × IsNoAnswer e.1) more

-- the same, and last of all by this event with this reply
pub record EndsBy (call : Call) (process : ℕ) (last : Event) (reply : Reply) (old new : Trail) : Type 0 where
  pub middle : Trail
  pub goes_on : GoesOn call process old middle
  pub is : new ≡ and_event middle last reply

-- the trail goes on by this event alone, by whose reply a call is under way
pub record Enters (begin : Event) (old new : Trail) : Type 0 where
  pub first : Reply
  pub entry : IsEntry first
  pub is : new ≡ and_event old begin first

-- the trail goes on by a call that this event begins, and that ends by this last event with this reply
pub record Runs (call : Call) (process : ℕ) (begin last : Event) (reply : Reply) (old new : Trail) : Type 0 where
  pub begun : Trail
  pub enters : Enters begin old begun
  pub ends : EndsBy call process last reply begun new

-- the trail goes on by one whole call of the process, which this event begins, and whose last reply is this: where that is an
-- answer, by the beginning, events of the call that do not end it, and the step that is answered so; else by the
-- beginning alone
abbrev pub HasCalled : Call → ℕ → Event → Reply → Trail → Trail → Type 0
HasCalled call process begin (Answered answer) old new = Runs call process begin (Step process) (Answered answer) old new
HasCalled call process begin reply old new = new ≡ and_event old begin reply

-- the trail goes on by the rest of a work that ends so: at last by the step that is answered so; or, where memory ran out, by
-- the stop of the process
abbrev pub WorkEnds : ℕ → WorkEnd → Trail → Trail → Type 0
WorkEnds process end old new = EndsBy Work process (Step process) (Answered (answers.Work end)) old new
    ⊎ ((end ≡ NoMemory) × ((reply : Reply) × EndsBy Work process (Stop process) reply old new))

-- the trail goes on by one whole work of the process on the cell, which comes to this: where it is not begun, by the
-- beginning alone
abbrev pub HasCalledWork : ℕ → Cell → Worked → Trail → Trail → Type 0
HasCalledWork process cell (worked.Ended end) old new = (begun : Trail) × Enters (BeginWork process cell) old begun × WorkEnds process end begun new
HasCalledWork process cell (worked.Refused why) old new = new ≡ and_event old (BeginWork process cell) (Refused why)
HasCalledWork process cell worked.NotEnabled old new = new ≡ and_event old (BeginWork process cell) NotEnabled

-- after a work that came to this the trail goes on by a whole recovery of the process, where the process was stopped; else
-- by nothing
abbrev pub RecoversAfter : Worked → ℕ → Trail → Trail → Type 0
RecoversAfter (worked.Refused Stopped) process old new = (reply : Reply) × HasCalled Recovery process (BeginRecover process) reply old new
RecoversAfter how process old new = new ≡ old

-- the trail goes on by a worker's turn at the cell: a whole work of its process, which happened, and, where that found the
-- process stopped, a whole recovery
pub record HasTurned (process : ℕ) (cell : Cell) (old new : Trail) : Type 0 where
  pub how : Worked
  pub middle : Trail
  pub works : HasCalledWork process cell how old middle
  pub worked : HasWorked process cell how
  pub recovers : RecoversAfter how process middle new

-- the trail goes on by that many parts, each of which does what it is to do by its number, from 0
pub data GoesOver (part : ℕ → Trail → Trail → Type 0) (old : Trail) : ℕ → Trail → Type 0 where
  none : GoesOver part old 0 old
  more : (n : ℕ) (middle new : Trail) → GoesOver part old n middle → part n middle new → GoesOver part old (suc n) new

-- the trail goes on by a worker's round: its turn at each cell of the sheet, in order
abbrev pub HasGoneRound : Shape → ℕ → Trail → Trail → Type 0
HasGoneRound shape process old new = GoesOver (λ index. HasTurned process (cell_at shape index)) old (count_of shape) new

-- the trail goes on by that many rounds
abbrev pub HasGoneRounds : Shape → ℕ → ℕ → Trail → Trail → Type 0
HasGoneRounds shape process rounds old new = GoesOver (λ round. HasGoneRound shape process) old rounds new
