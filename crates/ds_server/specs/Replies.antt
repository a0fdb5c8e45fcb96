-- What is said to a line.
use Rattle.std.specs.Prelude.{ℕ, Bool, true, nat_lt, if◌then◌else◌, List, map, Option, Some, None, option_map, Result, Ok, Err}
use Rattle.ds_formula.specs.declared.cells.Cell.{Cell}
use Rattle.ds_eval.specs.declared.value.Value.{Value}
use Rattle.ds_layout.specs.declared.place.Place.{Place}
use Rattle.ds_state.specs.declared.answer.EditEnd.{EditEnd}
use Rattle.ds_state.specs.declared.answer.EditEnd.TheVariants as edit
use Rattle.ds_state.specs.declared.answer.Other.{Other}
use Rattle.ds_state.specs.declared.recovery.LastEdit.{LastEdit}
use Rattle.ds_server.specs.declared.desk.CallRefusal.{CallRefusal}
use Rattle.ds_server.specs.declared.desk.Reported.{Reported}
use Rattle.ds_server.specs.declared.desk.Reported.TheVariants as report
use Rattle.ds_server.specs.declared.desk.ListedEdit.{ListedEdit}
use Rattle.ds_server.specs.declared.desk.History.{History}
use Rattle.ds_server.specs.declared.desk.Got.{Got}
use Rattle.ds_server.specs.declared.desk.Got.TheVariants as got
use Rattle.ds_server.specs.declared.request.LineFault.{LineFault}

-- an edit that counts: whose it is, which of that process's, its cell and its text
pub record EditEntry : Type 0 where
  pub process : ℕ
  pub number : ℕ
  pub cell : Cell
  pub text : List ℕ

-- what a desk answers to a call; and what a session says of itself: `JoinedLost`, to a join whose client was answered a later
-- edit than the desk has, and `Faulted`, to a line that asks for no call
pub data Said : Type 0 where
  Joined : ℕ → Option LastEdit → Said
  JoinedLost : ℕ → Option LastEdit → Said
  Done : ℕ → Said
  Overtaken : ℕ → Other → Said
  Settled : List Value → Said
  Unsettled : Place → ℕ → Said
  Tells : Option LastEdit → Said
  GotCell : Cell → Value → Option EditEntry → Said
  Listed : ℕ → List EditEntry → ℕ → Said
  Resolved : Option EditEntry → Said
  Left : Said
  Refused : CallRefusal → Said
  Faulted : LineFault → Said

-- the desk has lost an edit: the client was answered that the one of this number is done, and the last one that its process is
-- known to have announced is none, or an earlier one
abbrev pub has_lost : ℕ → Option LastEdit → Bool
has_lost done None = true
has_lost done (Some last) = nat_lt last.number done

-- what is said to a client that was answered that its edit of this number is done, if it says so, where the desk answers this
abbrev pub said_to : Option ℕ → Said → Said
said_to (Some done) (Joined process last) = if has_lost done last then JoinedLost process last else Joined process last
said_to _ said = said

-- what is said to a join of the process
abbrev pub joined_view : ℕ → Result (Option LastEdit) CallRefusal → Said
joined_view process (Ok last) = Joined process last
joined_view process (Err why) = Refused why

-- what is said to a join of any process
abbrev pub joined_any_view : Result (ℕ × Option LastEdit) CallRefusal → Said
joined_any_view (Ok found) = Joined found.0 found.1
joined_any_view (Err why) = Refused why

-- what is said to an edit
abbrev pub set_view : Result EditEnd CallRefusal → Said
set_view (Ok (edit.Done number)) = Done number
set_view (Ok (edit.Overtaken number by)) = Overtaken number by
set_view (Err why) = Refused why

-- what is said to a report
abbrev pub report_view : Result Reported CallRefusal → Said
report_view (Ok (report.Settled values)) = Settled values.items
report_view (Ok (report.Unsettled place word)) = Unsettled place word
report_view (Err why) = Refused why

-- an edit of a list
abbrev pub entry_view : ListedEdit → EditEntry
entry_view e = record { process = e.process; number = e.number; cell = e.cell; text = e.text.items }

-- what is said to a question for the cell
abbrev pub got_view : Cell → Result Got CallRefusal → Said
got_view cell (Ok (got.Settled value edit)) = GotCell cell value (option_map entry_view edit)
got_view cell (Ok (got.Unsettled place word)) = Unsettled place word
got_view cell (Err why) = Refused why

-- what is said to a question for the edits from this place on
abbrev pub history_view : ℕ → Result History CallRefusal → Said
history_view from (Ok history) = Listed from (map entry_view history.edits.items) history.of
history_view from (Err why) = Refused why

-- what is said to a question for the edit with a key: which it is, or that none has it, for good
abbrev pub resolved_view : Result (Option ListedEdit) CallRefusal → Said
resolved_view (Ok edit) = Resolved (option_map entry_view edit)
resolved_view (Err why) = Refused why

-- what is said to a recovery
abbrev pub last_view : Result (Option LastEdit) CallRefusal → Said
last_view (Ok last) = Tells last
last_view (Err why) = Refused why
