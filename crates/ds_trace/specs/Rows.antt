-- What a row says of its event.
use Rattle.std.specs.Prelude.{ℕ, ◌≡◌, ◌≤◌, List, [], ◌∷◌, ◌++◌, Option, map, length, option_map}
use Rattle.ds_formula.specs.declared.cells.Shape.{Shape}
use Rattle.ds_words.specs.declared.words.Word.{Word}
use Rattle.ds_words.specs.declared.access.Access.{Access}
use Rattle.ds_words.specs.declared.access.Access.TheVariants as accesses
use Rattle.ds_layout.specs.declared.place.Place.{Place}
use Rattle.ds_layout.specs.SheetMemory.{memory}
use Rattle.ds_state.specs.Value.{WorldValue, world_of}
use Rattle.ds_state.specs.declared.situation.Situation.{Situation}
use Rattle.ds_state.specs.declared.situation.Situation.TheVariants as situations
use Rattle.ds_edit.specs.EditSteps as edits
use Rattle.ds_work.specs.WorkSteps as works
use Rattle.ds_show.specs.ShowSteps as shows
use Rattle.ds_recover.specs.RecoverySteps as recoveries
use Rattle.ds_recover.specs.MigrationSteps as migrations
use Rattle.ds_core.specs.Takes.{Fits}
use Rattle.ds_core.specs.declared.event.Event.{Event}
use Rattle.ds_core.specs.declared.event.Event.TheVariants as events
use Rattle.ds_core.specs.declared.reply.Reply.{Reply}
use Rattle.ds_state.specs.Points.{point_of}
use Rattle.ds_script.specs.Points.{name_of}
use Rattle.ds_script.specs.declared.point.PointName.{PointName}
use Rattle.ds_script.specs.ScriptTexts.{reply_text}
use Rattle.ds_script.specs.declared.order.Call.{Call}
use Rattle.ds_script.specs.declared.order.Call.TheVariants as calls
use Rattle.ds_trace.specs.declared.row.Begin.{Begin}
use Rattle.ds_trace.specs.declared.row.Begin.TheVariants as begins
use Rattle.ds_trace.specs.declared.row.Happening.{Happening}
use Rattle.ds_trace.specs.declared.row.Happening.TheVariants.{Begins, Steps, TakesEntry, Evicts, Stops, Crashes}
use Rattle.ds_trace.specs.declared.row.TraceRow.{TraceRow}
use Rattle.ds_trace.specs.declared.turn.NoTrace.{NoTrace}
use Rattle.ds_trace.specs.declared.turn.NoTrace.TheVariants.{TooManyEvents, NoMemory}
use Rattle.ds_trace.specs.declared.turn.TheConstants.{EVENT_LIMIT}

-- ---- what happened

-- the access that a process in this situation makes by its next step: that of its call's stage; none in no call
abbrev pub access_in : Shape → Situation → Access Place
access_in shape (situations.Idle number) = accesses.Nothing
access_in shape situations.Stopped = accesses.Nothing
access_in shape (situations.Editing e) = edits.access_at e e.stage
access_in shape (situations.Working e) = works.access_at shape e e.stage
access_in shape (situations.Recovering e) = recoveries.access_at e e.stage
access_in shape (situations.Showing e) = shows.access_at e.stage
access_in shape (situations.Migrating e) = migrations.access_at e e.stage

-- the access that the process makes by its next step in the world
abbrev pub access_of : WorldValue → ℕ → Access Place
access_of v p = access_in v.sheet.layout.shape ((world_of v).situation p)

-- what an event is, in the world before it
abbrev pub what_of : WorldValue → Event → Happening
what_of old (events.BeginEdit r) = Begins r.process (begins.Edit r.cell)
what_of old (events.BeginWork p cell) = Begins p (begins.Work cell)
what_of old (events.BeginShow p) = Begins p begins.Show
what_of old (events.BeginRecover p) = Begins p begins.Recovery
what_of old (events.BeginMigrate p) = Begins p begins.Migration
what_of old (events.Step p) = Steps p (access_of old p)
what_of old (events.Offer value) = TakesEntry value.task.process
what_of old (events.Evict place) = Evicts place
what_of old (events.Stop p) = Stops p
what_of old events.Crash = Crashes

-- the text that an edit is to have which begins by the event; else none
abbrev pub text_by : Event → List ℕ
text_by (events.BeginEdit r) = r.text
text_by event = []

-- what begins by a call of a script
abbrev pub begin_in : Call → Begin
begin_in (calls.Edit cell text) = begins.Edit cell
begin_in (calls.Work cell) = begins.Work cell
begin_in calls.Show = begins.Show
begin_in calls.Recovery = begins.Recovery
begin_in calls.Migration = begins.Migration

-- the text that an edit is to have which begins by the call; else none
abbrev pub text_in : Call → List ℕ
text_in (calls.Edit cell text) = text.now
text_in (calls.Work cell) = []
text_in calls.Show = []
text_in calls.Recovery = []
text_in calls.Migration = []

-- ---- the words

-- both sides of the word at a place of the world
abbrev pub sides_of : WorldValue → Place → Word
sides_of v place = record { cached = (memory v.sheet).cached place; persisted = (memory v.sheet).persisted place }

-- ---- the row

-- the process that is answered; 0 where nobody is
abbrev pub answered_by : Happening → ℕ
answered_by (Begins p begin) = p
answered_by (Steps p access) = p
answered_by (TakesEntry p) = p
answered_by (Stops p) = p
answered_by (Evicts place) = 0
answered_by Crashes = 0

-- the name of the last point that the call of a process in this situation has passed, if it has passed one
abbrev pub passed_by : Situation → Option PointName
passed_by s = option_map name_of (point_of s)

-- the row says this, and of the world after it: the reply as scripts write it, the last point that the call of the
-- process has passed, how many edits are linearized, and both sides of the words at the places
pub record Tells (places : List Place) (new : WorldValue) (what : Happening) (reply : Reply) (text : List ℕ) (row : TraceRow) : Type 0 where
  pub what_is : row.what ≡ what
  pub reply_is : row.reply ≡ reply
  pub text_is : row.text.items ≡ text
  pub answer : row.answer.items ≡ reply_text new (answered_by what) reply
  pub behind : row.behind ≡ passed_by ((world_of new).situation (answered_by what))
  pub counted : row.counted ≡ length new.counted
  pub words : row.words.items ≡ map (sides_of new) places

-- the row is that of an event, which leads with this reply from the one world to the other
abbrev pub IsRowOf : List Place → WorldValue → Event → Reply → WorldValue → TraceRow → Type 0
IsRowOf places old event reply new row = Tells places new (what_of old event) reply (text_by event) row

-- why there is no row after these: there is no room for one more; or memory ran out
abbrev pub IsFull : List TraceRow → NoTrace → Type 0
IsFull before TooManyEvents = EVENT_LIMIT ≤ length before
IsFull before NoMemory = Unit {0}

-- one row stands after the others, for which this holds
abbrev pub OneMore : (TraceRow → Type 0) → List TraceRow → List TraceRow → Type 0
OneMore P before after = (row : TraceRow) × (after ≡ before ++ row ∷ []) × P row

-- the event leads, with its reply, from the one world to the other, and its row stands after the others
pub record Happens (places : List Place) (old : WorldValue) (event : Event) (reply : Reply) (new : WorldValue) (before after : List TraceRow) : Type 0 where
  pub fits : Fits old event reply new
  pub row : OneMore (IsRowOf places old event reply new) before after
