-- One event of a call that is driven.
use Rattle.std.specs.Prelude.{ℕ, ◌≡◌, ◌<◌, Option, Some, None, Result, Ok, Err}
use Rattle.ds_state.specs.declared.turn.Turn.{Turn}
use Rattle.ds_state.specs.declared.turn.Turn.TheVariants as turns
use Rattle.ds_core.specs.Own.{steps_left}
use Rattle.ds_state.specs.declared.refusal.Refusal.{Refusal}
use Rattle.ds_core.specs.declared.reply.Reply.{Reply}
use Rattle.ds_state.specs.Value.{WorldValue, world_of}
use Rattle.ds_state.specs.Works.{PlainWorkCall}
use Rattle.ds_work.specs.WorkTakes.{Waits}
use Rattle.ds_state.specs.declared.answer.Answer.{Answer}
use Rattle.ds_core.specs.Takes.{Fits}
use Rattle.ds_core.specs.declared.event.Event.TheVariants.{Step}
use Rattle.ds_core.specs.declared.reply.Reply.TheVariants.{Begun, Entered, Refused, Stepped, Answered}
use Rattle.ds_calls.specs.Wanted.{wants}
use Rattle.ds_core.specs.Kinds.{AnswersTo, RestsAs}
use Rattle.ds_calls.specs.Whole.{IsCalling, IsCallingAs, HasBegun, Finishes}

-- no work of the process waits for an entry
abbrev pub IsNotWaiting : WorldValue → ℕ → Type 0
IsNotWaiting v p = (e : PlainWorkCall) → Waits (world_of v) p e → ⊥

-- the event that the process wants leaves it in its call, of the same kind
pub record GoesOn (old : WorldValue) (p : ℕ) (new : WorldValue) : Type 0 where
  pub fits : Fits old (wants old p) Stepped new
  pub calling : IsCalling new p
  pub same : (answer : Answer) → AnswersTo ((world_of new).situation p) answer → AnswersTo ((world_of old).situation p) answer

-- the step that the process wants answers its call, and the process rests as the answer says
pub record IsAnswered (old : WorldValue) (p : ℕ) (answer : Answer) (new : WorldValue) : Type 0 where
  pub fits : Fits old (Step p) (Answered answer) new
  pub to : AnswersTo ((world_of old).situation p) answer
  pub rests : RestsAs answer ((world_of new).situation p)

-- the end of a call, where a step did this to it
abbrev pub ended : {E : Type 0} → Turn E → Option E
ended turns.GoesOn = None
ended (turns.Answers end) = Some end

-- the process went on with its call, whose ends are answered so: it ended; or it is in it still, with fewer steps left
abbrev pub Went : {E : Type 0} → (E → Answer) → WorldValue → ℕ → Option E → WorldValue → Type 0
Went answer old p (Some end) new = IsAnswered old p (answer end) new
Went answer old p None new = GoesOn old p new × (steps_left p new < steps_left p old)

-- a call of this kind whose begin has this reply can be driven: it has begun, or it was refused
abbrev pub CanGoOn : (Answer → Type 0) → WorldValue → ℕ → Reply → Type 0
CanGoOn kind v p (Begun number) = IsCallingAs kind v p
CanGoOn kind v p Entered = IsCallingAs kind v p
CanGoOn kind v p (Refused why) = Unit {0}
CanGoOn kind v p reply = ⊥

-- the begin has put the process into a call of this kind; or it was refused, and the world stays
abbrev pub BeginsCall : (Answer → Type 0) → WorldValue → ℕ → WorldValue → Reply → Type 0
BeginsCall kind old p new (Begun number) = IsCallingAs kind new p
BeginsCall kind old p new Entered = IsCallingAs kind new p
BeginsCall kind old p new (Refused why) = new ≡ old
BeginsCall kind old p new reply = ⊥

-- a call whose begin has this reply, and whose ends are answered so, is driven to its end, or it was refused
abbrev pub IsDriven : {E : Type 0} → (E → Answer) → ℕ → Reply → WorldValue → Result E Refusal → WorldValue → Type 0
IsDriven answer p reply old (Ok end) new = HasBegun reply × Finishes p old (answer end) new × RestsAs (answer end) ((world_of new).situation p)
IsDriven answer p reply old (Err why) new = (reply ≡ Refused why) × (new ≡ old)
