-- What is to be evaluated, apart from the sheet that it came from.
use Rattle.std.specs.Prelude.{ℕ, List}
use Rattle.ds_formula.specs.declared.cells.Shape.{Shape}
use Rattle.ds_formula.specs.declared.cells.Cell.{Cell}
use Rattle.ds_formula.specs.Plain.{PlainContent}
use Rattle.ds_eval.specs.declared.inputs.Entry.{Entry}
use Rattle.ds_eval.specs.declared.inputs.Input.{Input}
use Rattle.ds_eval.specs.Inputs.{entry_in}
use Rattle.ds_eval.specs.Local.{local}

-- a task without where it lies in memory: equal tasks are those with equal plain views
pub record PlainTask : Type 0 where
  pub process : ℕ
  pub cell : Cell
  pub generation : ℕ
  pub shape : Shape
  pub content : PlainContent
  pub inputs : List Input

-- the entry that the task's inputs give
abbrev pub local_of : PlainTask → Entry
local_of task = local task.shape task.content (entry_in task.inputs)

-- a task with the entry that it was given
pub record PlainEvaluated : Type 0 where
  pub task : PlainTask
  pub entry : Entry
