-- The events of whole calls and settles, in order, each with its reply.
use Rattle.std.specs.Prelude.{ℕ, List, [], ◌∷◌, ◌++◌, Result}
use Rattle.ds_state.specs.Value.{WorldValue}
use Rattle.ds_state.specs.declared.refusal.Refusal.{Refusal}
use Rattle.ds_state.specs.declared.answer.Answer.{Answer}
use Rattle.ds_core.specs.Takes.{WorldRun}
use Rattle.ds_core.specs.declared.event.Event.{Event}
use Rattle.ds_core.specs.declared.event.Event.TheVariants.{Step}
use Rattle.ds_core.specs.declared.reply.Reply.{Reply}
use Rattle.ds_core.specs.declared.reply.Reply.TheVariants.{Refused, Answered}
use Rattle.ds_calls.specs.declared.settle.SettleStage.{SettleStage}
use Rattle.ds_calls.specs.Whole.{Whole, finishes, refused}
use Rattle.ds_calls.specs.Settling.{Settling, begins, works}

-- events, and the reply to each
pub record Trace : Type 0 where
  pub events : List Event
  pub replies : List Reply

-- no event
abbrev pub no_trace : Trace
no_trace = record { events = []; replies = [] }

-- the events of the one, then those of the other
abbrev pub both : Trace → Trace → Trace
both first next = record { events = first.events ++ next.events; replies = first.replies ++ next.replies }

-- these events, with these replies, lead from the one world to the other
abbrev pub Leads : WorldValue → Trace → WorldValue → Type 0
Leads old trace new = WorldRun old trace.events trace.replies new

-- the events of a whole call: its begin, what its process wanted next, and its last step, with its answer; of a call that
-- is refused its begin alone
abbrev pub call_trace : {E : Type 0} (answer : E → Answer) (p : ℕ) (event : Event) (old : WorldValue) (result : Result E Refusal) (new : WorldValue) → Whole answer p event old result new → Trace
call_trace answer p event old result new (finishes reply mid n end begun fits h) = record { events = event ∷ (h.events ++ Step p ∷ []); replies = reply ∷ (h.replies ++ Answered (answer end) ∷ []) }
call_trace answer p event old result new (refused why n fits) = record { events = event ∷ []; replies = Refused why ∷ [] }

-- the events of the works of a settle
abbrev pub settle_trace : (p : ℕ) (first : WorldValue) (turn : SettleStage) (new : WorldValue) → Settling p first turn new → Trace
settle_trace p first turn new begins = no_trace
settle_trace p first turn new (works rounds cell old n result so_far whole) = both (settle_trace p first _ old so_far) (call_trace _ p _ old result new whole)
