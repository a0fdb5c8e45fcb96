-- The events of works, from world to world: beginnings, steps, offers.
use Rattle.std.specs.Prelude.{ℕ, ◌≡◌, ◌<◌, List, Option, Some, None}
use Rattle.ds_formula.specs.declared.cells.Shape.{Shape}
use Rattle.ds_formula.specs.Cells.{cell_at}
use Rattle.ds_formula.specs.Plain.{PlainContent}
use Rattle.ds_eval.specs.declared.inputs.Entry.{Entry}
use Rattle.ds_eval.specs.declared.inputs.Input.{Input}
use Rattle.ds_eval.specs.Tasks.{PlainTask}
use Rattle.ds_layout.specs.declared.layout.Layout.{Layout}
use Rattle.ds_layout.specs.Places.{cells_of}
use Rattle.ds_layout.specs.Mark.{generation_of}
use Rattle.ds_state.specs.Works.{PlainWorkCall, IsWork}
use Rattle.ds_state.specs.World.{PlainWorld}
use Rattle.ds_state.specs.declared.refusal.Refusal.{Refusal}
use Rattle.ds_state.specs.declared.refusal.Refusal.TheVariants as refusal
use Rattle.ds_state.specs.declared.situation.Situation.{Situation}
use Rattle.ds_state.specs.declared.situation.Situation.TheVariants.{Idle, Stopped, Editing, Working, Recovering, Showing, Migrating}
use Rattle.ds_state.specs.declared.work.WorkEnd.{WorkEnd}
use Rattle.ds_state.specs.declared.work.WorkStage.TheVariants.{LoadMark, Read, Wait, Answer}
use Rattle.ds_layout.specs.SheetMemory.{SheetValue, memory, PerformsAt}
use Rattle.ds_work.specs.WorkSteps.{access_at, next_at, rest_of, BeginsWork, StepsAt, ReadsAt, LacksAt, OffersAt}
use Rattle.ds_state.specs.declared.turn.Turn.{Turn}
use Rattle.ds_state.specs.declared.turn.Turn.TheVariants as does
use Rattle.ds_state.specs.declared.situation.Rest.{Rest}

-- ---- beginnings

-- work of the process on the cell, before its first step
pub record IsAskedFor (layout : Layout) (process : ℕ) (next : Rest) (index : ℕ) (e : PlainWorkCall) : Type 0 where
  pub process_is : e.process ≡ process
  pub next_is : rest_of e ≡ next
  pub cell_is : e.cell ≡ index
  pub cells : cells_of layout ≡ e.cells
  pub processes : layout.processes ≡ e.processes
  pub inside : e.cell < e.cells
  pub first : e.stage ≡ LoadMark

-- work of an idle process on the cell has begun
pub record IsBegun (old : PlainWorld) (process cell : ℕ) (new : PlainWorld) : Type 0 where
  pub next : Rest
  pub work : PlainWorkCall
  pub process_is : work.process ≡ process
  pub cell_is : work.cell ≡ cell
  pub begins : BeginsWork next work old new

-- why a process may not begin work: by its situation
abbrev pub RefusesIn : Situation → Refusal → Type 0
RefusesIn (Idle next) r = r ≡ refusal.NoMemory
RefusesIn Stopped r = r ≡ refusal.Stopped
RefusesIn (Editing e) r = r ≡ refusal.Busy
RefusesIn (Working e) r = r ≡ refusal.Busy
RefusesIn (Recovering e) r = r ≡ refusal.Busy
RefusesIn (Showing e) r = r ≡ refusal.Busy
RefusesIn (Migrating e) r = r ≡ refusal.Busy

-- why this process may not begin work
abbrev pub Refuses : PlainWorld → ℕ → Refusal → Type 0
Refuses w process r = RefusesIn (w.situation process) r

-- ---- tasks and offers

-- the task that a work waits for: process, cell, generation, shape, content and inputs
abbrev pub task_at : Shape → PlainWorkCall → PlainTask
task_at shape e = record {
  process = e.process;
  cell = cell_at shape e.cell;
  generation = generation_of e.mark;
  shape = shape;
  content = e.content;
  inputs = e.inputs;
}

-- the process's work waits for an entry
pub record Waits (w : PlainWorld) (process : ℕ) (e : PlainWorkCall) : Type 0 where
  pub inside : process < w.layout.processes
  pub works : w.situation process ≡ Working e
  pub waits : e.stage ≡ Wait

-- a work of the task's process waits for the entry of just this task
pub record WaitsFor (w : PlainWorld) (task : PlainTask) : Type 0 where
  pub work : PlainWorkCall
  pub waits : Waits w task.process work
  pub is : task ≡ task_at w.layout.shape work

-- the process's work, which waited, is given this entry for its task
pub record IsOffered (old : PlainWorld) (process : ℕ) (entry : Entry) (new : PlainWorld) : Type 0 where
  pub work : PlainWorkCall
  pub waits : Waits old process work
  pub mine : work.process ≡ process
  pub offers : OffersAt work entry old new

-- ---- steps

-- what a turn of the process's work does: it makes the step of its stage, or reads the content of its text, which may
-- lack memory, or answers
pub data TakesTurn (e : PlainWorkCall) (old new : PlainWorld) : Turn WorkEnd → Type 0 where
  steps : (word : ℕ) → StepsAt e e.stage word old new → ((end : WorkEnd) → e.stage ≡ Answer end → ⊥) → TakesTurn e old new does.GoesOn
  reads : (content : PlainContent) (inputs : List Input) → e.stage ≡ Read → ReadsAt e content inputs old new → TakesTurn e old new does.GoesOn
  lacked : e.stage ≡ Read → LacksAt e old new → TakesTurn e old new does.GoesOn
  answers : (end : WorkEnd) → e.stage ≡ Answer end → StepsAt e (Answer end) 0 old new → TakesTurn e old new (does.Answers end)

-- the process is in this work, which is one of its sheet
pub record IsIn (w : PlainWorld) (process : ℕ) (e : PlainWorkCall) : Type 0 where
  pub inside : process < w.layout.processes
  pub works : w.situation process ≡ Working e
  pub is : IsWork e

-- the work made the access of its stage on these words, and its process goes on with the word that it answered
pub record GoesBy (e : PlainWorkCall) (process : ℕ) (old new : SheetValue) (situation : Situation) : Type 0 where
  pub word : ℕ
  pub layout : new.layout ≡ old.layout
  pub performs : PerformsAt (access_at old.layout.shape e e.stage) process (memory old) (memory new) word
  pub goes : situation ≡ Working (next_at e e.stage word)

-- the process takes one turn of the work that it is in
pub record StepsBy (old : PlainWorld) (process : ℕ) (what : Turn WorkEnd) (new : PlainWorld) : Type 0 where
  pub inside : process < old.layout.processes
  pub work : PlainWorkCall
  pub mine : work.process ≡ process
  pub works : old.situation process ≡ Working work
  pub is : IsWork work
  pub turn : TakesTurn work old new what

-- the process is in no work, or its work waits
abbrev pub CanNotStep : PlainWorld → ℕ → Type 0
CanNotStep w process = (e : PlainWorkCall) → process < w.layout.processes → w.situation process ≡ Working e → e.stage ≡ Wait

-- the process takes one turn of its work; or it cannot make a step of work
abbrev pub StepTakes : PlainWorld → ℕ → Option (Turn WorkEnd) → PlainWorld → Type 0
StepTakes old process None new = CanNotStep old process
StepTakes old process (Some turn) new = StepsBy old process turn new
