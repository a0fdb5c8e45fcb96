-- Events and whole calls, as a caller sees them.
use Rattle.std.specs.Prelude.{ℕ, ◌≡◌, [], ◌∷◌, Result}
use Rattle.ds_formula.specs.declared.cells.Cell.{Cell}
use Rattle.ds_formula.specs.Cells.{IsInside}
use Rattle.ds_eval.specs.Tasks.{PlainTask, PlainEvaluated, local_of}
use Rattle.ds_state.specs.declared.answer.Answer.{Answer}
use Rattle.ds_state.specs.declared.answer.Answer.TheVariants.{Migration}
use Rattle.ds_state.specs.declared.migration.MigrateEnd.{MigrateEnd}
use Rattle.ds_state.specs.Value.{WorldValue, world_of}
use Rattle.ds_state.specs.Works.{PlainWorkCall}
use Rattle.ds_state.specs.declared.refusal.Refusal.{Refusal}
use Rattle.ds_work.specs.WorkTakes.{Waits, WaitsFor}
use Rattle.ds_core.specs.declared.event.Event.{Event}
use Rattle.ds_core.specs.declared.event.Event.TheVariants.{BeginMigrate, Offer, Evict, Crash}
use Rattle.ds_core.specs.declared.reply.Reply.{Reply}
use Rattle.ds_core.specs.declared.reply.Reply.TheVariants.{Crashed, Evicted}
use Rattle.ds_core.specs.Takes.{Fits}
use Rattle.ds_calls.specs.Whole.{HasProcess, IsWhole, IsWholeMigration}
use Rattle.ds_calls.specs.Settling.{Settling}
use Rattle.ds_calls.specs.Traces.{Trace}
use Rattle.ds_calls.specs.declared.settle.SettleEnd.{SettleEnd}
use Rattle.ds_recalculation.specs.Recalculations as recalculations
use Rattle.ds_calls.specs.declared.settle.SettleStage.TheVariants.{Ends}
use Rattle.ds_layout.specs.declared.place.Place.{Place}
use Rattle.ds_layout.specs.Places.{IsPlace}
use Rattle.ds_c.specs.declared.answer.AnswerRow.{AnswerRow}
use Rattle.ds_c.specs.declared.rows.PlaceRow.{PlaceRow}
use Rattle.ds_c.specs.declared.failure.Failure.{Failure}
use Rattle.ds_c.specs.declared.failure.Failure.TheVariants.{NoProcess, NoCell, NoWord, NoTask, NoMemory}
use Rattle.ds_c.specs.Answers.{reply_row, result_row, settle_row}
use Rattle.ds_c.specs.Rows.{place_named}
use Rattle.std.specs.Prelude.{Some}

-- the cell of this column and row
abbrev pub cell_of : ℕ → ℕ → Cell
cell_of column row = record { column = column; row = row }

-- ---- what a call does

-- the event happens, and the row says what was replied
pub record Replies (event : Event) (old : WorldValue) (row : AnswerRow) (new : WorldValue) : Type 0 where
  pub reply : Reply
  pub fits : Fits old event reply new
  pub row_is : row ≡ reply_row reply

-- a whole call of the process, whose ends are answered so, which begins by this event; the row says its answer, or why it
-- is refused
pub record Ended {E : Type 0} (answer : E → Answer) (p : ℕ) (event : Event) (old : WorldValue) (row : AnswerRow) (new : WorldValue) : Type 0 where
  pub came_to : Result E Refusal
  pub whole : IsWhole answer p event old came_to new
  pub row_is : row ≡ result_row answer came_to

-- a whole migration by the process, which leaves it stopped; the row says its answer, or why it is refused
pub record Migrates (p : ℕ) (old : WorldValue) (row : AnswerRow) (new : WorldValue) : Type 0 where
  pub came_to : Result MigrateEnd Refusal
  pub whole : IsWholeMigration p (BeginMigrate p) old came_to new
  pub row_is : row ≡ result_row Migration came_to

-- a whole settle of the process; the row says how it ended
pub record Settles (p : ℕ) (old : WorldValue) (row : AnswerRow) (new : WorldValue) : Type 0 where
  pub end : SettleEnd
  pub settles : Settling p old (Ends end) new
  pub row_is : row ≡ settle_row end

-- a recalculation of the process; the row says how it ended
pub record Recalculates (p : ℕ) (old : WorldValue) (row : AnswerRow) (new : WorldValue) : Type 0 where
  pub end : SettleEnd
  pub recalculates : recalculations.Recalculates p old end new
  pub row_is : row ≡ settle_row end

-- a task with its entry
abbrev pub evaluated : PlainTask → PlainEvaluated
evaluated task = record { task = task; entry = local_of task }

-- one event, with its reply
abbrev pub one_event : Event → Reply → Trace
one_event event reply = record { events = event ∷ []; replies = reply ∷ [] }

-- a task of the process is evaluated and offered to it
pub record Offers (p : ℕ) (old : WorldValue) (row : AnswerRow) (new : WorldValue) : Type 0 where
  pub task : PlainTask
  pub process_is : task.process ≡ p
  pub waited : WaitsFor (world_of old) task
  pub replies : Replies (Offer (evaluated task)) old row new

-- the word that the row names is evicted; there is nothing to tell
pub record Evicts (named : PlaceRow) (old : WorldValue) (told : Unit {0}) (new : WorldValue) : Type 0 where
  pub place : Place
  pub place_is : place_named named ≡ Some place
  pub fits : Fits old (Evict place) Evicted new

-- a crash comes; there is nothing to tell
abbrev pub Crashes : WorldValue → Unit {0} → WorldValue → Type 0
Crashes old told new = Fits old Crash Crashed new

-- ---- why it is not made

-- the sheet has no such process
abbrev pub LacksProcess : ℕ → WorldValue → Failure → Type 0
LacksProcess p v NoProcess = HasProcess v p → ⊥
LacksProcess p v why = ⊥

-- the sheet has no such cell
abbrev pub LacksCell : Cell → WorldValue → Failure → Type 0
LacksCell cell v NoCell = IsInside v.sheet.layout.shape cell → ⊥
LacksCell cell v why = ⊥

-- the sheet has no such process, or no such cell
abbrev pub LacksRequest : ℕ → Cell → WorldValue → Failure → Type 0
LacksRequest p cell v NoProcess = HasProcess v p → ⊥
LacksRequest p cell v NoCell = IsInside v.sheet.layout.shape cell → ⊥
LacksRequest p cell v why = ⊥

-- the sheet has no such process, or its work waits for nothing, or an allocation failed
abbrev pub LacksTask : ℕ → WorldValue → Failure → Type 0
LacksTask p v NoProcess = HasProcess v p → ⊥
LacksTask p v NoTask = (e : PlainWorkCall) → Waits (world_of v) p e → ⊥
LacksTask p v NoMemory = (e : PlainWorkCall) × Waits (world_of v) p e
LacksTask p v why = ⊥

-- the row names no word of the sheet
abbrev pub LacksWord : PlaceRow → WorldValue → Failure → Type 0
LacksWord named v NoWord = (place : Place) → place_named named ≡ Some place → IsPlace v.sheet.layout place → ⊥
LacksWord named v why = ⊥
