-- The beginning of work, its steps and offers, from world to world.
use Rattle.std.specs.Prelude.{ℕ, ◌≡◌, ◌<◌}
use Rattle.ds_formula.specs.Cells.{IsInside, index_of}
use Rattle.ds_formula.specs.declared.cells.Cell.{Cell}
use Rattle.ds_eval.specs.Tasks.{PlainEvaluated}
use Rattle.ds_state.specs.Value.{WorldValue, world_of, SameReports}
use Rattle.ds_state.specs.declared.refusal.Refusal.{Refusal}
use Rattle.ds_state.specs.declared.work.WorkEnd.{WorkEnd}
use Rattle.ds_state.specs.declared.answer.Answer.TheVariants.{Work}
use Rattle.ds_state.specs.declared.turn.Turn.{Turn}
use Rattle.ds_core.specs.Replies.{reply_of}
use Rattle.ds_work.specs.WorkTakes as works
use Rattle.ds_core.specs.declared.reply.Reply.{Reply}
use Rattle.ds_core.specs.declared.reply.Reply.TheVariants.{Entered, Refused, Stepped, WrongTask, NotEnabled}

-- the reply to a turn of work, by what the turn came to
abbrev pub work_reply : Turn WorkEnd → Reply
work_reply what = reply_of Work what

-- the process makes one step of its work, with the reply of that step; counts and kept snapshots stay
pub record WorkStepsBy (old : WorldValue) (p : ℕ) (reply : Reply) (new : WorldValue) : Type 0 where
  pub what : Turn WorkEnd
  pub steps : works.StepsBy (world_of old) p what (world_of new)
  pub is : reply ≡ work_reply what
  pub done : new.done ≡ old.done
  pub reports : SameReports old new

-- the sheet has the process, and the cell that it is to work on
pub record HasWork (old : WorldValue) (p : ℕ) (cell : Cell) : Type 0 where
  pub process : p < old.sheet.layout.processes
  pub within : IsInside old.sheet.layout.shape cell

-- work of the process on the cell begins; counts and kept snapshots stay
pub record WorkBegins (old : WorldValue) (p : ℕ) (cell : Cell) (new : WorldValue) : Type 0 where
  pub named : HasWork old p cell
  pub begun : works.IsBegun (world_of old) p (index_of old.sheet.layout.shape cell) (world_of new)
  pub done : new.done ≡ old.done
  pub reports : SameReports old new

-- the begin of work is refused for a cause that holds; the world stays
pub record WorkRefused (old : WorldValue) (p : ℕ) (cell : Cell) (why : Refusal) (new : WorldValue) : Type 0 where
  pub named : HasWork old p cell
  pub holds : works.Refuses (world_of old) p why
  pub same : new ≡ old

-- the sheet has no such process, or no such cell to work on; the world stays
pub record CanNotWork (old : WorldValue) (p : ℕ) (cell : Cell) (new : WorldValue) : Type 0 where
  pub unnamed : HasWork old p cell → ⊥
  pub same : new ≡ old

-- what the begin of work does, by its reply
abbrev pub BeginWorkTakes : WorldValue → ℕ → Cell → Reply → WorldValue → Type 0
BeginWorkTakes old p cell Entered new = WorkBegins old p cell new
BeginWorkTakes old p cell (Refused why) new = WorkRefused old p cell why new
BeginWorkTakes old p cell NotEnabled new = CanNotWork old p cell new
BeginWorkTakes old p cell _ new = ⊥

-- work that waits for just this task is given its entry
pub record TakesEntry (old : WorldValue) (value : PlainEvaluated) (new : WorldValue) : Type 0 where
  pub waited : works.WaitsFor (world_of old) value.task
  pub offered : works.IsOffered (world_of old) value.task.process value.entry (world_of new)
  pub done : new.done ≡ old.done
  pub reports : SameReports old new

-- no work waits for the task of this offer; the world stays
pub record IsWrongTask (old : WorldValue) (value : PlainEvaluated) (new : WorldValue) : Type 0 where
  pub none : works.WaitsFor (world_of old) value.task → ⊥
  pub same : new ≡ old

-- what an offer does, by its reply
abbrev pub OfferTakes : WorldValue → PlainEvaluated → Reply → WorldValue → Type 0
OfferTakes old value Stepped new = TakesEntry old value new
OfferTakes old value WrongTask new = IsWrongTask old value new
OfferTakes old value _ new = ⊥
