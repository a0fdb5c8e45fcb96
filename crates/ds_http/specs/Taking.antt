-- One call by a process that nobody has, which is taken for as long as the call lasts.
use Rattle.std.specs.Prelude.{◌≢◌, ◌⊎◌, ℕ, ◌+◌, ◌-◌, ◌≤◌, List, Option, Some, None, Result, Ok, Err}
use Rattle.ds_formula.specs.declared.cells.Cell.{Cell}
use Rattle.ds_formula.specs.Cells.{IsInside}
use Rattle.ds_state.specs.declared.recovery.LastEdit.{LastEdit}
use Rattle.ds_server.specs.declared.desk.CallRefusal.{CallRefusal}
use Rattle.ds_server.specs.declared.desk.CallRefusal.TheVariants as refusal
use Rattle.ds_server.specs.DeskCalls.{Call, Join, Set, SetOnce, Leave}
use Rattle.ds_server.specs.Replies.{Said, Joined, Left, Refused}
use Rattle.ds_server.specs.Desks.{Rules}

-- the process that is tried next, of this number of them, when `tried` were: from the last one down
abbrev pub next_of : ℕ → ℕ → ℕ
next_of processes tried = processes - 1 - tried

-- the joins of the last processes, `tried` of them, were refused one after another, since others have them; they led from the
-- first desk to this one
pub data Tried {B : Type 0} (rules : Rules B) (first : B) : ℕ → B → Type 0 where
  begins : Tried rules first 0 first
  tries : (tried : ℕ) (old new : B) → Tried rules first tried old
      → rules.does old (Join (next_of (rules.processes first) tried)) (Refused refusal.ProcessTaken) new → Tried rules first (tried + 1) new

-- none is left to be tried
abbrev pub HasNoMore : {B : Type 0} → Rules B → B → ℕ → B → Type 0
HasNoMore rules first tried desk = (rules.processes first ≤ tried) ⊎ (rules.processes desk ≤ next_of (rules.processes first) tried)

-- a process that nobody had is taken, after those that others have; or all are others'; or the join of one was refused
-- for another reason
pub data Takes {B : Type 0} (rules : Rules B) (first : B) : Result ℕ CallRefusal → B → Type 0 where
  takes : (tried : ℕ) (last : Option LastEdit) (old new : B) → Tried rules first tried old
      → rules.does old (Join (next_of (rules.processes first) tried)) (Joined (next_of (rules.processes first) tried) last) new
      → Takes rules first (Ok (next_of (rules.processes first) tried)) new
  all_taken : (tried : ℕ) (new : B) → Tried rules first tried new → HasNoMore rules first tried new → Takes rules first (Err refusal.ProcessTaken) new
  refused : (tried : ℕ) (why : CallRefusal) (old new : B) → Tried rules first tried old → why ≢ refusal.ProcessTaken
      → rules.does old (Join (next_of (rules.processes first) tried)) (Refused why) new → Takes rules first (Err why) new

-- something was done by a process that nobody had, which is free again then; or none could be taken, and nothing was done
pub data Visits {B : Type 0} (rules : Rules B) (first : B) (does : ℕ → B → Said → B → Type 0) : Said → B → Type 0 where
  none : (why : CallRefusal) (new : B) → Takes rules first (Err why) new → Visits rules first does (Refused why) new
  visits : (process : ℕ) (said : Said) (old mid new : B) → Takes rules first (Ok process) old
      → does process old said mid → rules.does mid (Leave process) Left new → Visits rules first does said new

-- the edit of a cell to a text by the process, with its key, if it is to have one
abbrev pub edit_call : Cell → List ℕ → Option (List ℕ) → ℕ → Call
edit_call cell text None process = Set process cell text
edit_call cell text (Some key) process = SetOnce process cell text key

-- a whole edit by the process of a cell that the sheet has; or, since the sheet has it no more, nothing
pub data Sets {B : Type 0} (rules : Rules B) (cell : Cell) (text : List ℕ) (key : Option (List ℕ)) (process : ℕ) (old : B) : Said → B → Type 0 where
  sets : (said : Said) (new : B) → IsInside (rules.shape old) cell → rules.does old (edit_call cell text key process) said new → Sets rules cell text key process old said new
  outside : ¬ (IsInside (rules.shape old) cell) → Sets rules cell text key process old (Refused refusal.ProcessTaken) old
