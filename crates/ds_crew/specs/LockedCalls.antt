-- The calls of a process, and the replies to their steps.
use Rattle.std.specs.Prelude.{◌≡◌, Option, Some, None}
use Rattle.ds_state.specs.declared.situation.Situation.{Situation}
use Rattle.ds_state.specs.declared.situation.Situation.TheVariants as situations
use Rattle.ds_core.specs.declared.event.Event.{Event}
use Rattle.ds_core.specs.declared.event.Event.TheVariants.{Step}
use Rattle.ds_state.specs.declared.turn.Turn.{Turn}
use Rattle.ds_core.specs.declared.reply.Reply.{Reply}
use Rattle.ds_core.specs.declared.reply.Reply.TheVariants.{Answered, NotEnabled, Refused}
use Rattle.ds_core.specs.Ends.{Kind, IsCallOf}
use Rattle.ds_core.specs.Replies.{reply_of}
use Rattle.ds_crew.specs.declared.came.Came.{Came}
use Rattle.ds_crew.specs.declared.came.Came.TheVariants as came
use Rattle.ds_state.specs.declared.work.WorkEnd.{WorkEnd}
use Rattle.ds_crew.specs.declared.ended.Worked.{Worked}
use Rattle.ds_crew.specs.declared.ended.Worked.TheVariants as worked
use Rattle.ds_crew.specs.declared.steps.Call.{Call}
use Rattle.ds_crew.specs.declared.steps.Call.TheVariants.{Edit, Work, Show, Recovery}

-- the call that a process is in, by its situation; of none of the lock's calls where it migrates the sheet
abbrev pub call_in : Situation → Option Call
call_in (situations.Idle next) = None
call_in situations.Stopped = None
call_in (situations.Editing e) = Some Edit
call_in (situations.Working e) = Some Work
call_in (situations.Recovering e) = Some Recovery
call_in (situations.Showing e) = Some Show
call_in (situations.Migrating e) = None

-- a process that is in this call is in one of this kind
abbrev pub IsKindOf : {E : Type 0} → Call → Kind E → Type 0
IsKindOf call kind = (s : Situation) → call_in s ≡ Some call → IsCallOf kind.is s

-- the reply to a step that did this to a call of this kind, or could not be made
abbrev pub step_reply : {E : Type 0} → Kind E → Option (Turn E) → Reply
step_reply kind None = NotEnabled
step_reply kind (Some turn) = reply_of kind.answer turn

-- the last reply to a call of this kind that came to this
abbrev pub came_reply : {E : Type 0} → Kind E → Came E → Reply
came_reply kind (came.Ended end) = Answered (kind.answer end)
came_reply kind (came.Refused why) = Refused why
came_reply kind came.NotEnabled = NotEnabled

-- the call has not begun
abbrev pub HasNotBegun : {E : Type 0} → Came E → Type 0
HasNotBegun (came.Ended end) = ⊥
HasNotBegun came = Unit {0}

-- how work ended that came to this
abbrev pub worked_of : Came WorkEnd → Worked
worked_of (came.Ended end) = worked.Ended end
worked_of (came.Refused why) = worked.Refused why
worked_of came.NotEnabled = worked.NotEnabled

-- the event is no step: it begins a call, offers an entry, or is of no process's call
abbrev pub IsNoStep : Event → Type 0
IsNoStep (Step p) = ⊥
IsNoStep event = Unit {0}

-- the call answers neither edits nor reports
abbrev pub CountsNothing : Call → Type 0
CountsNothing Edit = ⊥
CountsNothing Show = ⊥
CountsNothing call = Unit {0}
