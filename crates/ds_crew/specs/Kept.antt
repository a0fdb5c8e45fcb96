-- What is kept of reports, under the lock and by passes.
use Rattle.std.specs.Prelude.{ℕ, ◌≡◌, ◌<◌, ◌-◌, ◌⊎◌, List, [], length, slice_index_or, Option, Some, None, nat_lt, if◌then◌else◌}
use Rattle.ds_formula.specs.declared.cells.Cell.{Cell}
use Rattle.ds_eval.specs.declared.value.Value.{Value}
use Rattle.ds_layout.specs.declared.layout.Layout.{Layout}
use Rattle.ds_layout.specs.Places.{cells_of}
use Rattle.ds_state.specs.Reports.{PlainReports}
use Rattle.ds_state.specs.Value.{WorldValue, IsGood, world_of}
use Rattle.ds_state.specs.declared.answer.Answer.{Answer}
use Rattle.ds_state.specs.declared.answer.Answer.TheVariants as answers
use Rattle.ds_state.specs.declared.work.WorkEnd.{WorkEnd}
use Rattle.ds_state.specs.declared.work.WorkEnd.TheVariants.{NoMemory}
use Rattle.ds_calls.specs.Marked.{marked_from}
use Rattle.ds_state.specs.declared.show.ShowEnd.TheVariants.{Settled}
use Rattle.ds_core.specs.Takes.{Fits}
use Rattle.ds_core.specs.declared.event.Event.{Event}
use Rattle.ds_core.specs.declared.event.Event.TheVariants.{Step, Stop, BeginEdit, BeginWork, BeginShow, BeginRecover}
use Rattle.ds_core.specs.declared.reply.Reply.{Reply}
use Rattle.ds_core.specs.declared.reply.Reply.TheVariants.{Answered, Begun, Entered, NotEnabled, Refused}
use Rattle.ds_crew.specs.LockedCalls.{call_in}
use Rattle.ds_crew.specs.declared.steps.Call.{Call}
use Rattle.ds_crew.specs.declared.steps.Call.TheVariants.{Edit, Work, Show, Recovery}
use Rattle.ds_crew.specs.declared.ended.Worked.{Worked}
use Rattle.ds_crew.specs.declared.ended.Worked.TheVariants as worked

-- the reply to a step by which a show is settled
abbrev pub settled_reply : Reply
settled_reply = Answered (answers.Show Settled)

-- the values of the process's last settled show; none where it has had none, or the sheet has no such process
abbrev pub report_of : PlainReports → ℕ → List Value
report_of reports process = slice_index_or reports.values process []

-- the process has a last report, with a value for each cell
pub record HasShow (layout : Layout) (process : ℕ) (reports : PlainReports) : Type 0 where
  pub process_is : process < length reports.values
  pub full : length (report_of reports process) ≡ cells_of layout

-- the values that are kept after a reply: those of the show that is answered Settled, else those before
abbrev pub last_after : Reply → List Value → List Value → List Value
last_after (Answered (answers.Show Settled)) report before = report
last_after reply report before = before

-- a process in this call makes its next step: the world takes it as any step; a process that is not in the call makes none
pub record StepsIn (call : Call) (process : ℕ) (old : WorldValue) (reply : Reply) (new : WorldValue) : Type 0 where
  pub taken : call_in ((world_of old).situation process) ≡ Some call → Fits old (Step process) reply new
  pub none : (call_in ((world_of old).situation process) ≡ Some call → ⊥) → (reply ≡ NotEnabled) × (new ≡ old)

-- the event happened, with this reply, to a good world
pub record Happened (event : Event) (reply : Reply) : Type 0 where
  pub old : WorldValue
  pub new : WorldValue
  pub good : IsGood old
  pub fits : Fits old event reply new

-- a process's next step in this call was asked of a good world, with this reply
pub record HasStepped (call : Call) (process : ℕ) (reply : Reply) : Type 0 where
  pub old : WorldValue
  pub new : WorldValue
  pub good : IsGood old
  pub steps : StepsIn call process old reply new

-- a process's report was answered Settled, in a good world, and these are its values
pub record HasSettled (process : ℕ) (values : List Value) : Type 0 where
  pub old : WorldValue
  pub new : WorldValue
  pub good : IsGood old
  pub fits : Fits old (Step process) settled_reply new
  pub values_are : values ≡ report_of new.reports process

-- a process's next step in this call was asked of a good world, with this reply; or it was of a show whose values there
-- is no room for
pub data HasMade (call : Call) (process : ℕ) (reply : Reply) : Type 0 where
  stepped : HasStepped call process reply → HasMade call process reply
  no_room : call ≡ Show → reply ≡ NotEnabled → HasMade call process reply

-- by this reply a call is under way
abbrev pub IsEntry : Reply → Type 0
IsEntry (Begun number) = Unit {0}
IsEntry Entered = Unit {0}
IsEntry reply = ⊥

-- the event happened to a good world, and began a call
pub record HasBegun (begin : Event) : Type 0 where
  pub first : Reply
  pub entry : IsEntry first
  pub happened : Happened begin first

-- the process's call that this event begins ended with this reply: at once; or it began, and a step answered it
pub data HasEnded (call : Call) (process : ℕ) (begin : Event) (reply : Reply) : Type 0 where
  at_once : Happened begin reply → HasEnded call process begin reply
  by_step : (answer : Answer) → reply ≡ Answered answer → HasBegun begin → HasStepped call process reply → HasEnded call process begin reply

-- the process's work that has begun ended so: a step answered it; or there was no memory for its task, and the process
-- was stopped
abbrev pub EndsWork : ℕ → WorkEnd → Type 0
EndsWork process end = HasStepped Work process (Answered (answers.Work end)) ⊎ ((end ≡ NoMemory) × ((reply : Reply) × Happened (Stop process) reply))

-- the process's work on the cell ended so: it began, and ended; or it was refused, or not enabled
abbrev pub HasWorked : ℕ → Cell → Worked → Type 0
HasWorked process cell (worked.Ended end) = HasBegun (BeginWork process cell) × EndsWork process end
HasWorked process cell (worked.Refused why) = Happened (BeginWork process cell) (Refused why)
HasWorked process cell worked.NotEnabled = Happened (BeginWork process cell) NotEnabled

-- in a good world this was the first cell that was marked, from this one on, if one was
pub record HasMarked (from : ℕ) (marked : Option ℕ) : Type 0 where
  pub world : WorldValue
  pub good : IsGood world
  pub is : marked ≡ marked_from (world_of world) (cells_of world.sheet.layout - from) from

-- a number that is below a limit
abbrev pub within : ℕ → Option ℕ → Option ℕ
within limit None = None
within limit (Some n) = if nat_lt n limit then Some n else None

-- the same, of a sheet with this number of cells
abbrev pub HasFound : ℕ → ℕ → Option ℕ → Type 0
HasFound cells from found = (marked : Option ℕ) × HasMarked from marked × (found ≡ within cells marked)

-- the process's edit, report or recovery that this event begins ended with this reply
abbrev pub HasUsed : ℕ → Event → Reply → Type 0
HasUsed process (BeginEdit request) reply = (request.process ≡ process) × HasEnded Edit process (BeginEdit request) reply
HasUsed process (BeginShow p) reply = (p ≡ process) × HasEnded Show process (BeginShow p) reply
HasUsed process (BeginRecover p) reply = (p ≡ process) × HasEnded Recovery process (BeginRecover p) reply
HasUsed process begin reply = ⊥
