-- How the rows of a recording stand in the lanes of their processes.
use Rattle.std.specs.Prelude.{ℕ, ◌==◌, Bool, false}
use Rattle.ds_words.specs.declared.access.Access.{Access}
use Rattle.ds_words.specs.declared.access.Access.TheVariants as access
use Rattle.ds_layout.specs.declared.place.Place.{Place}
use Rattle.ds_core.specs.declared.reply.Reply.{Reply}
use Rattle.ds_core.specs.declared.reply.Reply.TheVariants as replies
use Rattle.ds_trace.specs.declared.row.Happening.{Happening}
use Rattle.ds_trace.specs.declared.row.Happening.TheVariants.{Begins, Steps, TakesEntry, Evicts, Stops, Crashes}
use Rattle.ds_trace_scene.specs.declared.lanes.Style.{Style}
use Rattle.ds_trace_scene.specs.declared.lanes.Style.TheVariants as styles

-- how a step stands there that goes on, by what it does to a word
abbrev pub step_style : Access Place → Style
step_style access.Nothing = styles.Inner
step_style (access.Load place) = styles.Read
step_style (access.Store place word) = styles.Write
step_style (access.Or place word) = styles.Write
step_style (access.SwapIf place expected value) = styles.Write
step_style (access.Flush place) = styles.Move
step_style access.Back = styles.Move

-- how an event stands there, by what happened and what that was answered; one that does not happen is refused
abbrev pub style_by : Happening → Reply → Style
style_by (Begins process begin) (replies.Begun number) = styles.Begin
style_by (Begins process begin) replies.Entered = styles.Begin
style_by (Steps process access) replies.Stepped = step_style access
style_by (Steps process access) (replies.Answered answer) = styles.Answer
style_by (TakesEntry process) reply = styles.Inner
style_by what reply = styles.Refused

-- the event is one of this process's lane: a stop only where it is refused
abbrev pub is_in_lane : ℕ → Happening → Reply → Bool
is_in_lane process (Begins by begin) reply = by == process
is_in_lane process (Steps by access) reply = by == process
is_in_lane process (TakesEntry by) reply = by == process
is_in_lane process (Stops by) replies.Stopped = false
is_in_lane process (Stops by) reply = by == process
is_in_lane process (Evicts place) reply = false
is_in_lane process Crashes reply = false
