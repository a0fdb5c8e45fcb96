-- The line that each answer is written as: compact JSON, whose keys are in byte order (our own protocol).
use Rattle.std.specs.Prelude.{ℕ, zero, suc, Bool, true, false, List, [], ◌∷◌, ◌++◌, take, drop, map, codes, Option, Some, None}
use Rattle.serde_json.specs.Data.{Data, null, boolean, number, unsigned, string, array, object, no_members, member}
use Rattle.serde_json.specs.View.{items_of}
use Rattle.serde_json.specs.Written.{compact_text}
use Rattle.std.specs.Fmt.{decimal}
use Rattle.ds_formula.specs.declared.cells.Cell.{Cell}
use Rattle.ds_formula.specs.declared.cells.Shape.{Shape}
use Rattle.ds_formula.specs.declared.fault.TextFault.{TextFault}
use Rattle.ds_formula.specs.Cells.{cell_at}
use Rattle.ds_formula.specs.Names.{cell_text, name_of_kind}
use Rattle.ds_eval.specs.declared.value.Value.{Value}
use Rattle.ds_eval.specs.Numbers.{value_text}
use Rattle.ds_layout.specs.declared.place.Place.{Place}
use Rattle.ds_layout.specs.declared.place.Place.TheVariants as place
use Rattle.ds_state.specs.declared.answer.Other.{Other}
use Rattle.ds_state.specs.declared.recovery.LastEdit.{LastEdit}
use Rattle.ds_server.specs.declared.desk.CallRefusal.{CallRefusal}
use Rattle.ds_server.specs.declared.desk.CallRefusal.TheVariants as refusal
use Rattle.ds_server.specs.declared.request.LineFault.{LineFault}
use Rattle.ds_server.specs.declared.request.LineFault.TheVariants as fault
use Rattle.ds_server.specs.Replies.{Said, Joined, JoinedLost, Done, Overtaken, Settled, Unsettled, Tells, GotCell, Listed, Resolved, Left, Refused, Faulted, EditEntry}

-- ---- codes and names

-- the code of a fault of a line
abbrev pub code_of_fault : LineFault → ℕ
code_of_fault fault.NotJson = 1
code_of_fault fault.UnknownOp = 2
code_of_fault fault.BadField = 3
code_of_fault fault.LineTooLong = 5
code_of_fault fault.NotJoined = 6
code_of_fault fault.AlreadyJoined = 7
code_of_fault fault.NoMemory = 15
code_of_fault fault.Denied = 20

-- the name of a fault of a line
abbrev pub name_of_fault : LineFault → List ℕ
name_of_fault fault.NotJson = codes "not-json"
name_of_fault fault.UnknownOp = codes "unknown-op"
name_of_fault fault.BadField = codes "bad-field"
name_of_fault fault.LineTooLong = codes "line-too-long"
name_of_fault fault.NotJoined = codes "not-joined"
name_of_fault fault.AlreadyJoined = codes "already-joined"
name_of_fault fault.NoMemory = codes "no-memory"
name_of_fault fault.Denied = codes "denied"

-- ---- parts of answers

-- a number as JSON
abbrev pub number_data : ℕ → Data
number_data n = number (unsigned n)

-- a text as JSON
abbrev pub text_data : List ℕ → Data
text_data text = string text

-- the word for how an edit ended, by whether it is linearized
abbrev pub outcome_text : Bool → List ℕ
outcome_text true = codes "done"
outcome_text false = codes "not-done"

-- the last edit of a process: {"cell":"A1","number":0,"outcome":"done"}
abbrev pub edit_data : Shape → LastEdit → Data
edit_data shape last = object (member (codes "cell") (text_data (cell_text (cell_at shape last.cell))) (member (codes "number") (number_data last.number) (member (codes "outcome") (text_data (outcome_text last.counts)) no_members)))

-- the last edit of a process, null where it has none
abbrev pub last_data : Shape → Option LastEdit → Data
last_data shape None = null
last_data shape (Some last) = edit_data shape last

-- another process's edit: {"number":0,"process":1}
abbrev pub other_data : Other → Data
other_data other = object (member (codes "number") (number_data other.number) (member (codes "process") (number_data other.process) no_members))

-- a value, as the text that a report shows
abbrev pub value_data : Value → Data
value_data value = text_data (value_text value)

-- a row of values
abbrev pub row_data : List Value → Data
row_data values = array (items_of (map value_data values))

-- the values cut into rows: how many columns a row has, and how many rows there are
abbrev pub rows_of : ℕ → ℕ → List Value → List (List Value)
rows_of columns zero values = []
rows_of columns (suc rows) values = take columns values ∷ rows_of columns rows (drop columns values)

-- the values of a sheet, row by row
abbrev pub rows_data : Shape → List Value → Data
rows_data shape values = array (items_of (map row_data (rows_of shape.columns shape.rows values)))

-- the place of a word that was not at rest; a report watches marks and announcements alone
abbrev pub place_text : Shape → Place → List ℕ
place_text shape (place.Mark cell) = codes "mark " ++ cell_text (cell_at shape cell)
place_text shape (place.Announce process) = codes "announce " ++ decimal process
place_text shape other = []

-- ---- answers

-- the answer to a join, with the process and its last edit: {"last":null,"ok":"join","process":0}
abbrev pub joined_data : Shape → ℕ → Option LastEdit → Data
joined_data shape process last = object (member (codes "last") (last_data shape last) (member (codes "ok") (text_data (codes "join")) (member (codes "process") (number_data process) no_members)))

-- the same, where an edit was lost of which the client was answered that it is done: {"last":null,"lost":true,"ok":"join","process":0}
abbrev pub joined_lost_data : Shape → ℕ → Option LastEdit → Data
joined_lost_data shape process last = object (member (codes "last") (last_data shape last) (member (codes "lost") (boolean true) (member (codes "ok") (text_data (codes "join")) (member (codes "process") (number_data process) no_members))))

-- the answer of a linearized edit: {"number":0,"ok":"done"}
abbrev pub done_data : ℕ → Data
done_data n = object (member (codes "number") (number_data n) (member (codes "ok") (text_data (codes "done")) no_members))

-- the answer of an edit that another one has overtaken: {"by":{"number":0,"process":1},"number":0,"ok":"overtaken"}
abbrev pub overtaken_data : ℕ → Other → Data
overtaken_data n by = object (member (codes "by") (other_data by) (member (codes "number") (number_data n) (member (codes "ok") (text_data (codes "overtaken")) no_members)))

-- the answer of a report that is settled, with the values row by row: {"ok":"settled","rows":[["3",""],["",""]]}
abbrev pub settled_data : Shape → List Value → Data
settled_data shape values = object (member (codes "ok") (text_data (codes "settled")) (member (codes "rows") (rows_data shape values) no_members))

-- the answer of a report that found a word not at rest: {"ok":"unsettled","place":"mark A1","word":1}
abbrev pub unsettled_data : Shape → Place → ℕ → Data
unsettled_data shape at word = object (member (codes "ok") (text_data (codes "unsettled")) (member (codes "place") (text_data (place_text shape at)) (member (codes "word") (number_data word) no_members)))

-- what a process is reported of its last edit: {"last":{"cell":"A1","number":0,"outcome":"done"},"ok":"last"}
abbrev pub tells_data : Shape → Option LastEdit → Data
tells_data shape last = object (member (codes "last") (last_data shape last) (member (codes "ok") (text_data (codes "last")) no_members))

-- which edit it is: {"number":0,"process":0}
abbrev pub edit_name_data : EditEntry → Data
edit_name_data e = object (member (codes "number") (number_data e.number) (member (codes "process") (number_data e.process) no_members))

-- which edit a cell is of, null without one
abbrev pub edit_of_data : Option EditEntry → Data
edit_of_data None = null
edit_of_data (Some e) = edit_name_data e

-- the text that an edit gave its cell, empty without one
abbrev pub text_by : Option EditEntry → List ℕ
text_by None = []
text_by (Some e) = e.text

-- what a cell is: {"cell":"A1","edit":{"number":0,"process":0},"ok":"got","text":"=1+2","value":"3"}
abbrev pub got_data : Cell → Value → Option EditEntry → Data
got_data cell value edit = object (member (codes "cell") (text_data (cell_text cell)) (member (codes "edit") (edit_of_data edit) (member (codes "ok") (text_data (codes "got")) (member (codes "text") (text_data (text_by edit)) (member (codes "value") (value_data value) no_members)))))

-- an edit of a list: {"cell":"A1","number":0,"process":0,"text":"=1+2"}
abbrev pub entry_data : EditEntry → Data
entry_data e = object (member (codes "cell") (text_data (cell_text e.cell)) (member (codes "number") (number_data e.number) (member (codes "process") (number_data e.process) (member (codes "text") (text_data e.text) no_members))))

-- the edits of a list
abbrev pub entries_data : List EditEntry → Data
entries_data edits = array (items_of (map entry_data edits))

-- a part of the edits that count, from a place on, and how many count: {"edits":[..],"from":0,"ok":"history","of":1}
abbrev pub listed_data : ℕ → List EditEntry → ℕ → Data
listed_data from edits of = object (member (codes "edits") (entries_data edits) (member (codes "from") (number_data from) (member (codes "of") (number_data of) (member (codes "ok") (text_data (codes "history")) no_members))))

-- what became of the edit with a key: {"edit":{"cell":"A1","number":0,"process":0,"text":"=1+2"},"ok":"outcome","outcome":"done"}, or
-- that none has it, for good: {"edit":null,"ok":"outcome","outcome":"never"}
abbrev pub resolved_data : Option EditEntry → Data
resolved_data None = object (member (codes "edit") null (member (codes "ok") (text_data (codes "outcome")) (member (codes "outcome") (text_data (codes "never")) no_members)))
resolved_data (Some e) = object (member (codes "edit") (entry_data e) (member (codes "ok") (text_data (codes "outcome")) (member (codes "outcome") (text_data (codes "done")) no_members)))

-- an error by its code and name: {"code":1,"error":"not-json"}
abbrev pub error_data : ℕ → List ℕ → Data
error_data code name = object (member (codes "code") (number_data code) (member (codes "error") (text_data name) no_members))

-- the error of a text with a fault, and the byte where the fault is: {"code":11,"error":"text","fault":"NotWhole","offset":2}
abbrev pub text_fault_data : TextFault → Data
text_fault_data at = object (member (codes "code") (number_data 11) (member (codes "error") (text_data (codes "text")) (member (codes "fault") (text_data (name_of_kind at.kind)) (member (codes "offset") (number_data at.offset) no_members))))

-- a refusal of a desk
abbrev pub refusal_data : CallRefusal → Data
refusal_data refusal.ProcessTaken = error_data 4 (codes "process-taken")
refusal_data (refusal.Text at) = text_fault_data at
refusal_data refusal.Stopped = error_data 13 (codes "stopped")
refusal_data refusal.RecordsFull = error_data 14 (codes "records-full")
refusal_data refusal.NoMemory = error_data 15 (codes "no-memory")
refusal_data refusal.KeyReused = error_data 21 (codes "key-reused")
refusal_data refusal.NoEdit = error_data 22 (codes "no-edit")
refusal_data refusal.NoHistory = error_data 23 (codes "no-history")

-- what is said, as JSON; that a process is given back is said to nobody
abbrev pub said_data : Shape → Said → Data
said_data shape (Joined process last) = joined_data shape process last
said_data shape (JoinedLost process last) = joined_lost_data shape process last
said_data shape (Done n) = done_data n
said_data shape (Overtaken n by) = overtaken_data n by
said_data shape (Settled values) = settled_data shape values
said_data shape (Unsettled at word) = unsettled_data shape at word
said_data shape (Tells last) = tells_data shape last
said_data shape (GotCell cell value edit) = got_data cell value edit
said_data shape (Listed from edits of) = listed_data from edits of
said_data shape (Resolved edit) = resolved_data edit
said_data shape Left = null
said_data shape (Refused why) = refusal_data why
said_data shape (Faulted fault) = error_data (code_of_fault fault) (name_of_fault fault)

-- the line of what is said: its JSON without spaces, and a line feed
abbrev pub said_text : Shape → Said → List ℕ
said_text shape said = compact_text (said_data shape said) ++ 10 ∷ []
