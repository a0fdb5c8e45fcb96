-- A world as a desk: what each call of a session does to it, and is answered.
use Rattle.std.specs.Prelude.{ℕ, ◌≡◌, ◌≤◌, List, [], ◌∷◌, ◌++◌, length, map, take, drop, slice_index_or, Option, Some, None, option_map, Result, Ok, Err}
use Rattle.ds_formula.specs.declared.cells.Cell.{Cell}
use Rattle.ds_formula.specs.declared.cells.Shape.{Shape}
use Rattle.ds_formula.specs.Cells.{index_of, cell_at}
use Rattle.ds_eval.specs.declared.value.Value.{Value}
use Rattle.ds_eval.specs.declared.value.Value.TheVariants.{Blank}
use Rattle.ds_state.specs.World.{PlainEdit, of_cell}
use Rattle.ds_state.specs.Shown.{last_text}
use Rattle.ds_state.specs.Value.{WorldValue, world_of}
use Rattle.ds_state.specs.declared.refusal.Refusal.{Refusal}
use Rattle.ds_state.specs.declared.refusal.Refusal.TheVariants as begin
use Rattle.ds_recover.specs.RecoverBegun.{MayRecover}
use Rattle.ds_state.specs.declared.answer.Answer.TheVariants as answers
use Rattle.ds_state.specs.declared.answer.EditEnd.{EditEnd}
use Rattle.ds_state.specs.declared.recovery.RecoveryEnd.{RecoveryEnd}
use Rattle.ds_state.specs.declared.recovery.RecoveryEnd.TheVariants as recovery
use Rattle.ds_state.specs.declared.recovery.LastEdit.{LastEdit}
use Rattle.ds_state.specs.declared.show.ShowEnd.{ShowEnd}
use Rattle.ds_state.specs.declared.show.ShowEnd.TheVariants as ended
use Rattle.ds_core.specs.declared.event.Event.TheVariants.{BeginEdit, BeginShow, BeginRecover}
use Rattle.ds_calls.specs.declared.settle.SettleEnd.TheVariants as settle
use Rattle.ds_calls.specs.declared.settle.SettleStage.TheVariants.{Ends}
use Rattle.ds_calls.specs.Whole.{HasProcess, Whole, request}
use Rattle.ds_calls.specs.Settling.{Settling}
use Rattle.ds_server.specs.declared.desk.CallRefusal.{CallRefusal}
use Rattle.ds_server.specs.declared.desk.CallRefusal.TheVariants as refusal
use Rattle.ds_server.specs.declared.desk.Reported.{Reported}
use Rattle.ds_server.specs.declared.desk.Reported.TheVariants as report
use Rattle.ds_server.specs.declared.desk.History.{History}
use Rattle.ds_server.specs.declared.desk.Got.{Got}
use Rattle.ds_server.specs.declared.desk.Got.TheVariants as got
use Rattle.ds_server.specs.DeskCalls.{Call, Join, JoinAny, Set, SetOnce, Undo, Report, View, Get, Listing, Resolve, Last, Leave}
use Rattle.ds_server.specs.Replies.{Said, Joined, Left, Refused, EditEntry, entry_view, joined_view, set_view, report_view, got_view, history_view, last_view}
use Rattle.ds_server.specs.Desks.{Rules}

-- ---- what a session is answered, by what the whole call was

-- why a call of a session is refused, by why the world refuses its begin: a process in a call is another's, and while
-- one migrates the sheet all are its
abbrev pub refused_by : Refusal → CallRefusal
refused_by (begin.Text fault) = refusal.Text fault
refused_by begin.Busy = refusal.ProcessTaken
refused_by begin.Stopped = refusal.Stopped
refused_by begin.RecordsFull = refusal.RecordsFull
refused_by begin.NoMemory = refusal.NoMemory
refused_by (begin.Migrating q) = refusal.ProcessTaken
refused_by (begin.NotStopped q) = refusal.ProcessTaken

-- a recovery that ended so says this
abbrev pub Recovers : Result RecoveryEnd Refusal → Result (Option LastEdit) CallRefusal → Type 0
Recovers (Ok (recovery.Last last)) result = result ≡ Ok (Some last)
Recovers (Ok recovery.Nothing) result = result ≡ Ok None
Recovers (Err why) result = result ≡ Err (refused_by why)

-- an edit that ended so is answered so
abbrev pub Edits : Result EditEnd Refusal → Result EditEnd CallRefusal → Type 0
Edits (Ok end) result = result ≡ Ok end
Edits (Err why) result = result ≡ Err (refused_by why)

-- the values of the process's last settled report
abbrev pub values_of : WorldValue → ℕ → List Value
values_of w p = slice_index_or w.reports.values p []

-- the values are copied, or an allocation fails for the copy
abbrev pub Copies : List Value → Result Reported CallRefusal → Type 0
Copies values (Ok (report.Settled copy)) = copy.items ≡ values
Copies values (Ok (report.Unsettled place word)) = ⊥
Copies values (Err why) = why ≡ refusal.NoMemory

-- a report that ended so, in the world after it, is answered this
abbrev pub Reports : WorldValue → ℕ → Result ShowEnd Refusal → Result Reported CallRefusal → Type 0
Reports w p (Ok ended.Settled) result = Copies (values_of w p) result
Reports w p (Ok (ended.Unsettled place word)) result = result ≡ Ok (report.Unsettled place word)
Reports w p (Err why) result = result ≡ Err (refused_by why)

-- ---- the edits that count

-- an edit of a sheet of this shape, as a list has it
abbrev pub entry_of : Shape → PlainEdit → EditEntry
entry_of shape e = record { process = e.process; number = e.number; cell = cell_at shape e.cell; text = e.text }

-- the edits of the world that count, in the order in which they count
abbrev pub entries_of : WorldValue → List EditEntry
entries_of w = map (entry_of w.sheet.layout.shape) w.counted

-- the edits of the world that count and are of this cell, in the order in which they count
abbrev pub edits_of : WorldValue → Cell → List PlainEdit
edits_of w cell = of_cell (index_of w.sheet.layout.shape cell) w.counted

-- the last one of the edits, as a list has it, if there is any
abbrev pub IsLastOf : Shape → List PlainEdit → Option EditEntry → Type 0
IsLastOf shape edits None = edits ≡ []
IsLastOf shape edits (Some entry) = (before : List PlainEdit) × (last : PlainEdit) × (edits ≡ before ++ last ∷ []) × (entry ≡ entry_of shape last)

-- the text before the last one of the edits: that of those before it, the empty one where it is the first
pub record IsTextBefore (edits : List PlainEdit) (text : List ℕ) : Type 0 where
  pub before : List PlainEdit
  pub last : PlainEdit
  pub is : edits ≡ before ++ last ∷ []
  pub text_is : text ≡ last_text before

-- ---- what a call does

-- what a cell is, by the values of all cells: its own, and its last edit that counts, if any; or an allocation fails
abbrev pub Finds : WorldValue → Cell → List Value → Result Got CallRefusal → Type 0
Finds w cell values (Ok (got.Settled value edit)) = (value ≡ slice_index_or values (index_of w.sheet.layout.shape cell) Blank)
    × IsLastOf w.sheet.layout.shape (edits_of w cell) (option_map entry_view edit)
Finds w cell values (Ok (got.Unsettled place word)) = ⊥
Finds w cell values (Err why) = why ≡ refusal.NoMemory

-- what a cell is, in the world after a settle and a report that was answered so
abbrev pub Gets : WorldValue → Cell → Result Reported CallRefusal → Result Got CallRefusal → Type 0
Gets w cell (Ok (report.Settled values)) result = Finds w cell values.items result
Gets w cell (Ok (report.Unsettled place word)) result = result ≡ Ok (got.Unsettled place word)
Gets w cell (Err why) result = result ≡ Err why

-- the edits that count, from a place on and at most a number of them, and how many count; or an allocation fails
abbrev pub Lists : WorldValue → ℕ → ℕ → Result History CallRefusal → Type 0
Lists w from most (Ok history) = (map entry_view history.edits.items ≡ take most (drop from (entries_of w))) × (history.of ≡ length w.counted)
Lists w from most (Err why) = why ≡ refusal.NoMemory

-- the session has the process: it is one of the sheet, and in no call, idle or stopped
pub record IsSeated (w : WorldValue) (p : ℕ) : Type 0 where
  pub there : HasProcess w p
  pub free : MayRecover ((world_of w).situation p)

-- no process is in no call
abbrev pub NoneIsFree : WorldValue → Type 0
NoneIsFree w = (p : ℕ) → IsSeated w p → ⊥

-- the last process that is in no call
pub record IsLastFree (w : WorldValue) (p : ℕ) : Type 0 where
  pub seated : IsSeated w p
  pub last : (q : ℕ) → IsSeated w q → q ≤ p

-- a settle and then a whole report of the process, and its answer; a settle that is refused or is out of memory is answered
-- so, and what it has worked on stays
pub data TakesSnapshot (p : ℕ) (old : WorldValue) : Result Reported CallRefusal → WorldValue → Type 0 where
  reports : (left : ℕ) (mid new : WorldValue) (answer : Result ShowEnd Refusal) (end : Result Reported CallRefusal) → Settling p old (Ends (settle.Left left)) mid → Whole answers.Show p (BeginShow p) mid answer new → Reports new p answer end
      → TakesSnapshot p old end new
  is_refused : (why : Refusal) (new : WorldValue) → Settling p old (Ends (settle.Refused why)) new → TakesSnapshot p old (Err (refused_by why)) new
  lacks : (new : WorldValue) → Settling p old (Ends settle.NoMemory) new → TakesSnapshot p old (Err refusal.NoMemory) new

-- a call of a session, its answer, and the world before and after it: a join and `last` are whole recoveries, an edit
-- is a whole edit, a report is a settle and then a whole report; a process is given back in no call. Any process is the last one that is in
-- no call; without a process of its own a session sees the sheet by a join of any and that one's report; an undo is an edit
-- to the text before the cell's last edit. A world keeps no keys
pub data Does (old : WorldValue) : Call → Said → WorldValue → Type 0 where
  joins : (p : ℕ) (answer : Result RecoveryEnd Refusal) (last : Result (Option LastEdit) CallRefusal) (new : WorldValue) → Whole answers.Recovery p (BeginRecover p) old answer new → Recovers answer last
      → Does old (Join p) (joined_view p last) new
  sets : (p : ℕ) (cell : Cell) (text : List ℕ) (answer : Result EditEnd Refusal) (end : Result EditEnd CallRefusal) (new : WorldValue) → Whole answers.Edit p (BeginEdit (request p cell text)) old answer new → Edits answer end
      → Does old (Set p cell text) (set_view end) new
  snapshots : (p : ℕ) (end : Result Reported CallRefusal) (new : WorldValue) → TakesSnapshot p old end new → Does old (Report p) (report_view end) new
  tells : (p : ℕ) (answer : Result RecoveryEnd Refusal) (last : Result (Option LastEdit) CallRefusal) (new : WorldValue) → Whole answers.Recovery p (BeginRecover p) old answer new → Recovers answer last
      → Does old (Last p) (last_view last) new
  leaves : (p : ℕ) → MayRecover ((world_of old).situation p) → Does old (Leave p) Left old
  joins_any : (p : ℕ) (said : Said) (new : WorldValue) → IsLastFree old p → Does old (Join p) said new → Does old JoinAny said new
  has_none : NoneIsFree old → Does old JoinAny (Refused refusal.ProcessTaken) old
  undoes : (p : ℕ) (cell : Cell) (text : List ℕ) (said : Said) (new : WorldValue) → IsTextBefore (edits_of old cell) text → Does old (Set p cell text) said new → Does old (Undo p cell) said new
  has_no_edit : (p : ℕ) (cell : Cell) → edits_of old cell ≡ [] → Does old (Undo p cell) (Refused refusal.NoEdit) old
  views : (p : ℕ) (end : Result Reported CallRefusal) (new : WorldValue) → TakesSnapshot p old end new → Does old (View (Some p)) (report_view end) new
  views_by_any : (p : ℕ) (last : Option LastEdit) (end : Result Reported CallRefusal) (mid new : WorldValue) → Does old JoinAny (Joined p last) mid → TakesSnapshot p mid end new → Does old (View None) (report_view end) new
  has_no_view : (why : CallRefusal) (new : WorldValue) → Does old JoinAny (Refused why) new → Does old (View None) (Refused why) new
  gets : (joined : Option ℕ) (cell : Cell) (seen : Result Reported CallRefusal) (found : Result Got CallRefusal) (new : WorldValue) → Does old (View joined) (report_view seen) new → Gets new cell seen found
      → Does old (Get joined cell) (got_view cell found) new
  sets_no_key : (p : ℕ) (cell : Cell) (text key : List ℕ) → Does old (SetOnce p cell text key) (Refused refusal.NoHistory) old
  has_no_keys : (key : List ℕ) → Does old (Resolve key) (Refused refusal.NoHistory) old
  lists : (from most : ℕ) (found : Result History CallRefusal) → Lists old from most found → Does old (Listing from most) (history_view from found) old

-- what a world says of itself as a desk
abbrev pub world_rules : Rules WorldValue
world_rules = record {
  shape = λ w. w.sheet.layout.shape;
  processes = λ w. w.sheet.layout.processes;
  token = λ w. None;
  sits = IsSeated;
  does = Does;
}

-- ---- parts of calls

-- a whole recovery of the process, and what it reports
pub record HasRecovered (p : ℕ) (old : WorldValue) (last : Result (Option LastEdit) CallRefusal) (new : WorldValue) : Type 0 where
  pub answer : Result RecoveryEnd Refusal
  pub whole : Whole answers.Recovery p (BeginRecover p) old answer new
  pub tells : Recovers answer last

-- a whole edit of the process, and how it ended
pub record HasEdited (p : ℕ) (cell : Cell) (text : List ℕ) (old : WorldValue) (end : Result EditEnd CallRefusal) (new : WorldValue) : Type 0 where
  pub answer : Result EditEnd Refusal
  pub whole : Whole answers.Edit p (BeginEdit (request p cell text)) old answer new
  pub tells : Edits answer end

-- a whole report of the process, and how it ended
pub record HasReported (p : ℕ) (old : WorldValue) (end : Result Reported CallRefusal) (new : WorldValue) : Type 0 where
  pub answer : Result ShowEnd Refusal
  pub whole : Whole answers.Show p (BeginShow p) old answer new
  pub tells : Reports new p answer end
