-- What a pass was answered, as replies of a run.
use Rattle.std.specs.Prelude.{ℕ, ◌≡◌, ◌<◌, List, length}
use Rattle.ds_state.specs.EditEndings.{end_of}
use Rattle.ds_state.specs.Value.{WorldValue, world_of}
use Rattle.ds_state.specs.declared.answer.Answer.TheVariants.{Edit, Work, Recovery, Show}
use Rattle.ds_state.specs.declared.situation.Situation.{Situation}
use Rattle.ds_state.specs.declared.situation.Situation.TheVariants.{Editing, Working, Recovering, Showing}
use Rattle.ds_core.specs.Takes.{WorldRun, world_at}
use Rattle.ds_core.specs.Headline.{Happens}
use Rattle.ds_core.specs.declared.event.Event.{Event}
use Rattle.ds_core.specs.declared.event.Event.TheVariants.{Step}
use Rattle.ds_core.specs.declared.reply.Reply.{Reply}
use Rattle.ds_core.specs.declared.reply.Reply.TheVariants.{Answered}
use Rattle.ds_shared_runs.specs.declared.history.CallEvent.{CallEvent}
use Rattle.ds_shared_runs.specs.declared.history.CallEvent.TheVariants.{Began, Edited, Worked, Recovered, Reported}

-- the event by which the process was answered this
abbrev pub event_of : ℕ → CallEvent → Event
event_of p (Began event reply) = event
event_of p _ = Step p

-- the reply that it was answered
abbrev pub reply_to : CallEvent → Reply
reply_to (Began event reply) = reply
reply_to (Edited e how) = Answered (Edit (end_of e.processes e.number how))
reply_to (Worked e end) = Answered (Work end)
reply_to (Recovered e end) = Answered (Recovery end)
reply_to (Reported e end) = Answered (Show end)

-- where a call was answered, the process was in this call
abbrev pub IsIn : CallEvent → Situation → Type 0
IsIn (Began event reply) s = Unit {0}
IsIn (Edited e how) s = s ≡ Editing e
IsIn (Worked e end) s = s ≡ Working e
IsIn (Recovered e end) s = s ≡ Recovering e
IsIn (Reported e end) s = s ≡ Showing e

-- at this place among the events stands the one by which the process was answered this, with its reply: the begin of a
-- call, or a step that was answered, before which the process was in the call of which it was answered
pub record StandsAt (old : WorldValue) (events : List Event) (replies : List Reply) (new : WorldValue) (run : WorldRun old events replies new) (p : ℕ) (t : CallEvent) (place : ℕ) : Type 0 where
  pub within : place < length events
  pub happens : Happens events replies place (event_of p t) (reply_to t)
  pub call : IsIn t ((world_of (world_at old events replies new run place)).situation p)

-- it stands at some place
pub record Stands (old : WorldValue) (events : List Event) (replies : List Reply) (new : WorldValue) (run : WorldRun old events replies new) (p : ℕ) (t : CallEvent) : Type 0 where
  pub place : ℕ
  pub at : StandsAt old events replies new run p t place
