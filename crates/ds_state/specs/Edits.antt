-- An edit under way, without where it lies in memory.
use Rattle.std.specs.Prelude.{ℕ, ◌<◌, ◌≤◌, List, length, All}
use Rattle.ds_formula.specs.Limits.{CELLS_MOST, PROCESSES_MOST}
use Rattle.ds_layout.specs.declared.place.TheConstants.{RECORDS}
use Rattle.ds_layout.specs.Head.{IsHead}
use Rattle.ds_layout.specs.TextWords.{parts_for}
use Rattle.ds_state.specs.Text.{IsText}
use Rattle.ds_state.specs.declared.stage.Stage.{Stage}
use Rattle.ds_state.specs.declared.stage.Stage.TheVariants.{StoreText, FlushText, BackRecord, OrIndex, FlushIndex, BackIndex, FlushNoted, BackNoted, OrDone, FlushDone, BackDone}
use Rattle.ds_layout.specs.declared.place.Edition.{Edition}
use Rattle.ds_state.specs.Editions.{most_in}

-- an edit under way: its process and number; the layout that it writes; its cell and text; the cells that the text refers to; how many cells and
-- processes the sheet has; its stage
pub record PlainEditCall : Type 0 where
  pub process : ℕ
  pub number : ℕ
  pub edition : Edition
  pub cell : ℕ
  pub text : List ℕ
  pub refs : List ℕ
  pub cells : ℕ
  pub processes : ℕ
  pub stage : Stage

-- how many words a text needs
abbrev pub text_parts : List ℕ → ℕ
text_parts text = parts_for (length text)

-- the numbers in a stage are those of parts, references and heads of the sheet
abbrev pub IsStageOf : ℕ → ℕ → ℕ → Stage → Type 0
IsStageOf parts refs processes (StoreText part) = part < parts
IsStageOf parts refs processes (FlushText part) = part < parts
IsStageOf parts refs processes (BackRecord left) = left ≤ parts
IsStageOf parts refs processes (OrIndex i) = i < refs
IsStageOf parts refs processes (FlushIndex i) = i < refs
IsStageOf parts refs processes (BackIndex i) = i < refs
IsStageOf parts refs processes (FlushNoted head) = IsHead processes head
IsStageOf parts refs processes (BackNoted head) = IsHead processes head
IsStageOf parts refs processes (OrDone head) = IsHead processes head
IsStageOf parts refs processes (FlushDone head) = IsHead processes head
IsStageOf parts refs processes (BackDone head) = IsHead processes head
IsStageOf parts refs processes _ = Unit {0}

-- the numbers in a stage are those of this edit's parts and references, and of heads of the sheet
abbrev pub IsStage : PlainEditCall → Stage → Type 0
IsStage e stage = IsStageOf (text_parts e.text) (length e.refs) e.processes stage

-- an edit under way has the process, number, cell, text, references and stage of one sheet
pub record IsEdit (e : PlainEditCall) : Type 0 where
  pub process : e.process < e.processes
  pub processes : e.processes ≤ PROCESSES_MOST
  pub number : e.number < RECORDS
  pub cell : e.cell < e.cells
  pub cells : e.cells ≤ CELLS_MOST
  pub text : IsText e.text
  pub fits : length e.text ≤ most_in e.edition
  pub refs : All (λ r. r < e.cells) e.refs
  pub stage : IsStage e e.stage
