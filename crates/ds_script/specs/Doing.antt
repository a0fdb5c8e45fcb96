-- What a command does, event by event, and the text that it ends with.
use Rattle.std.specs.Prelude.{ℕ, ◌≡◌, List, [], ◌∷◌, Option, Some, None, Ok, if◌then◌else◌}
use Rattle.ds_formula.specs.Cells.{cell_at}
use Rattle.ds_layout.specs.SheetMemory.{memory}
use Rattle.ds_state.specs.Value.{WorldValue, world_of}
use Rattle.ds_state.specs.declared.situation.Situation.{Situation}
use Rattle.ds_state.specs.declared.answer.Answer.TheVariants as answers
use Rattle.ds_state.specs.declared.work.WorkEnd.TheVariants as work_ends
use Rattle.ds_core.specs.declared.event.Event.{Event}
use Rattle.ds_core.specs.declared.event.Event.TheVariants as events
use Rattle.ds_core.specs.declared.reply.Reply.{Reply}
use Rattle.ds_core.specs.declared.reply.Reply.TheVariants.{Begun, Entered, Stepped, Answered}
use Rattle.ds_core.specs.declared.reply.Reply.TheVariants as replies
use Rattle.ds_calls.specs.declared.settle.SettleEnd.{SettleEnd}
use Rattle.ds_calls.specs.declared.settle.SettleEnd.TheVariants.{Left, Refused, NoMemory}
use Rattle.ds_calls.specs.declared.settle.SettleStage.{SettleStage}
use Rattle.ds_calls.specs.declared.settle.SettleStage.TheVariants as turns
use Rattle.ds_calls.specs.Wanted.{wants}
use Rattle.ds_calls.specs.Settling.{first_turn, worked}
use Rattle.ds_calls.specs.Marked.{state_at, is_marked}
use Rattle.ds_recalculation.specs.Plans.{IsPlan}
use Rattle.ds_recalculation.specs.Recalculations.{stop_of}
use Rattle.ds_script.specs.declared.point.PointName.{PointName}
use Rattle.ds_script.specs.declared.drive.Until.{Until}
use Rattle.ds_script.specs.declared.drive.Until.TheVariants.{OneStep, ToPoint, ToAnswer, InRound}
use Rattle.ds_script.specs.Points.{has_passed}
use Rattle.ds_script.specs.ScriptTexts.{reply_text, answer_text, at_text, left_text, peek_text, word_text}
use Rattle.ds_script.specs.Orders.{Deed}
use Rattle.ds_script.specs.Orders as deed

-- where a command stands: it ends with this text; wants one event; begins a call and drives it; drives the process up
-- to here; begins work on a cell, in a round of a settle with n rounds left; begins work on a cell, in a recalculation with
-- these cells left of its order; or drives the process through that work
pub data Doing : Type 0 where
  Says : List ℕ → Doing
  Once : ℕ → Event → Doing
  Calls : ℕ → Event → Doing
  Drives : ℕ → Until → Doing
  Works : ℕ → ℕ → ℕ → Doing
  WorksInOrder : ℕ → ℕ → List ℕ → Doing
  DrivesInOrder : ℕ → List ℕ → Doing

-- ---- what it wants

-- the event that a command wants next; none where it has ended
abbrev pub asks : Doing → WorldValue → Option Event
asks (Says text) w = None
asks (Once p event) w = Some event
asks (Calls p event) w = Some event
asks (Drives p until) w = Some (wants w p)
asks (Works p rounds cell) w = Some (events.BeginWork p (cell_at w.sheet.layout.shape cell))
asks (WorksInOrder p cell rest) w = Some (events.BeginWork p (cell_at w.sheet.layout.shape cell))
asks (DrivesInOrder p rest) w = Some (wants w p)

-- ---- turns of a settle

-- the text of how a settle by the process ended, in the world that it leaves: how many cells are left, or the refusal of
-- a begin, or the answer of a work that lacked memory
abbrev pub end_text : WorldValue → ℕ → SettleEnd → List ℕ
end_text w p (Left count) = left_text count
end_text w p (Refused why) = reply_text w p (replies.Refused why)
end_text w p NoMemory = answer_text w p (answers.Work work_ends.NoMemory)

-- where a settle by the process stands at this turn: it ends with a text, or works on a cell
abbrev pub at_turn : WorldValue → ℕ → SettleStage → Doing
at_turn w p (turns.Ends end) = Says (end_text w p end)
at_turn w p (turns.Works rounds cell) = Works p rounds cell

-- a settle by the process, with two rounds more than the sheet has cells
abbrev pub settle : WorldValue → ℕ → Doing
settle w p = at_turn w p (first_turn w)

-- ---- turns of a recalculation

-- a recalculation by the process works on the first of these cells that is marked; where none is, it settles
abbrev pub in_order : WorldValue → ℕ → List ℕ → Doing
in_order w p [] = settle w p
in_order w p (cell ∷ rest) = if is_marked (state_at (world_of w) cell) then WorksInOrder p cell rest else in_order w p rest

-- a recalculation by the process ends by a work of its, or goes on with these cells
abbrev pub after_work : WorldValue → ℕ → List ℕ → Option SettleEnd → Doing
after_work w p rest None = in_order w p rest
after_work w p rest (Some end) = Says (end_text w p end)

-- ---- what a command does at its turn

-- the process is driven up to the point; once its call has passed that, the command ends
abbrev pub to_point : ℕ → PointName → Situation → Doing
to_point p name s = if has_passed s name then Says (at_text p name) else Drives p (ToPoint name)

-- what a command does after a step of the process that it drives
abbrev pub stepped : WorldValue → ℕ → Until → Doing
stepped w p OneStep = Says (reply_text w p Stepped)
stepped w p (ToPoint name) = to_point p name ((world_of w).situation p)
stepped w p ToAnswer = Drives p ToAnswer
stepped w p (InRound rounds cell) = Drives p (InRound rounds cell)

-- what a command does after an offer to the work of the process that it drives, which is no step
abbrev pub offered : WorldValue → ℕ → Until → Doing
offered w p OneStep = Drives p OneStep
offered w p (ToPoint name) = to_point p name ((world_of w).situation p)
offered w p ToAnswer = Drives p ToAnswer
offered w p (InRound rounds cell) = Drives p (InRound rounds cell)

-- what a command does once the call that it drives has ended, or cannot go on: a settle takes its next turn after a
-- work
abbrev pub ended : WorldValue → ℕ → Until → Reply → Doing
ended w p (InRound rounds cell) (Answered (answers.Work end)) = at_turn w p (worked w rounds cell (Ok end))
ended w p until reply = Says (reply_text w p reply)

-- what a command does when the event of the process that it drives has this reply
abbrev pub driven : WorldValue → ℕ → Until → Event → Reply → Doing
driven w p until (events.Offer value) Stepped = offered w p until
driven w p until event Stepped = stepped w p until
driven w p until event reply = ended w p until reply

-- what a command does when the call that it begins has this reply: once begun, the call is driven
abbrev pub called : WorldValue → ℕ → Until → Reply → Doing
called w p until (Begun number) = Drives p until
called w p until Entered = Drives p until
called w p until reply = Says (reply_text w p reply)

-- what a recalculation does when the work that it begins has this reply
abbrev pub entered : WorldValue → ℕ → List ℕ → Reply → Doing
entered w p rest (Begun number) = DrivesInOrder p rest
entered w p rest Entered = DrivesInOrder p rest
entered w p rest reply = Says (reply_text w p reply)

-- what a recalculation does when an event of the work that it drives has this reply
abbrev pub gone : WorldValue → ℕ → List ℕ → Reply → Doing
gone w p rest Stepped = DrivesInOrder p rest
gone w p rest (Answered (answers.Work end)) = after_work w p rest (stop_of (Ok end))
gone w p rest reply = Says (reply_text w p reply)

-- what a command does when the event has this reply, in the world after it
abbrev pub told : Doing → Event → Reply → WorldValue → Doing
told (Says text) event reply w = Says text
told (Once p asked) event reply w = Says (reply_text w p reply)
told (Calls p asked) event reply w = called w p ToAnswer reply
told (Drives p until) event reply w = driven w p until event reply
told (Works p rounds cell) event reply w = called w p (InRound rounds cell) reply
told (WorksInOrder p cell rest) event reply w = entered w p rest reply
told (DrivesInOrder p rest) event reply w = gone w p rest reply

-- ---- how it begins

-- the order of cells in which a deed works: of a recalculation one that goes along the references; no other deed has one
abbrev pub IsOrderOf : WorldValue → Deed → List ℕ → Type 0
IsOrderOf w (deed.Recalculate p) order = IsPlan w order
IsOrderOf w deed order = order ≡ []

-- what a command does first, by the deed that its line asks for; a recalculation works in this order of cells
abbrev pub plan : WorldValue → List ℕ → Deed → Doing
plan w order (deed.Whole p event) = Calls p event
plan w order (deed.Begin p event) = Once p event
plan w order (deed.Settle p) = settle w p
plan w order (deed.Recalculate p) = in_order w p order
plan w order (deed.Step p) = Drives p OneStep
plan w order (deed.RunTo p name) = to_point p name ((world_of w).situation p)
plan w order (deed.Run p) = Drives p ToAnswer
plan w order (deed.Stop p) = Once p (events.Stop p)
plan w order deed.Crash = Once 0 events.Crash
plan w order (deed.Evict place) = Once 0 (events.Evict place)
plan w order (deed.Peek cell) = Says (peek_text (world_of w) cell)
plan w order (deed.Word place) = Says (word_text (memory w.sheet) place)
