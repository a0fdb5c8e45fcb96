-- What a line asks for.
use Rattle.std.specs.Prelude.{◌≡◌, ℕ, ◌<◌, nat_lt, Bool, true, false, is_some, List, codes, Option, Some, None, Result, Ok, Err, if◌then◌else◌}
use Rattle.std.specs.Str.{bytes_eq, IsUtf8}
use Rattle.serde_json.specs.Data.{Data}
use Rattle.serde_json.specs.Read.{read}
use Rattle.serde_json.specs.Find.{get, as_str, as_number, as_u64}
use Rattle.ds_formula.specs.declared.cells.Cell.{Cell}
use Rattle.ds_formula.specs.declared.cells.Shape.{Shape}
use Rattle.ds_formula.specs.Cells.{IsInside}
use Rattle.ds_formula.specs.Names.{cell_named}
use Rattle.ds_key.specs.Keys.{is_key}
use Rattle.ds_script_io.specs.Fields.{◌>>=◌}
use Rattle.ds_server.specs.declared.request.Operation.{Operation}
use Rattle.ds_server.specs.declared.request.Operation.TheVariants as verb
use Rattle.ds_server.specs.declared.request.LineFault.{LineFault}
use Rattle.ds_server.specs.declared.request.LineFault.TheVariants as fault
use Rattle.ds_server.specs.SessionLimits.{HISTORY_MOST}
use Rattle.ds_server.specs.DeskCalls.{Call, Join, JoinAny, Set, SetOnce, Undo, Report, View, Get, Listing, Resolve, Last, Leave}

-- ---- JSON

-- the line is JSON of this value, by the grammar of RFC 8259 in UTF-8; of equal keys of an object the last one stands
abbrev pub IsJson : List ℕ → Data → Type 0
IsJson line value = IsUtf8 line × (read line ≡ Some value)

-- the line is no JSON
abbrev pub IsNoJson : List ℕ → Type 0
IsNoJson line = IsUtf8 line → read line ≡ None

-- ---- fields

-- the text of the field with this key, where the value is an object whose field that is, and it is a text
abbrev pub text_field : List ℕ → Data → Option (List ℕ)
text_field key value = get key value >>= as_str

-- the number of the field with this key: a whole one from 0 to 2^64 - 1
abbrev pub number_field : List ℕ → Data → Option ℕ
number_field key value = (get key value >>= as_number) >>= as_u64

-- the verb that a word names
abbrev pub verb_named : List ℕ → Option Operation
verb_named word =
    if bytes_eq word (codes "join") then Some verb.Join
    else (if bytes_eq word (codes "set") then Some verb.Set
    else (if bytes_eq word (codes "undo") then Some verb.Undo
    else (if bytes_eq word (codes "report") then Some verb.Report
    else (if bytes_eq word (codes "view") then Some verb.View
    else (if bytes_eq word (codes "get") then Some verb.Get
    else (if bytes_eq word (codes "history") then Some verb.History
    else (if bytes_eq word (codes "outcome") then Some verb.Outcome
    else (if bytes_eq word (codes "last") then Some verb.Last
    else None))))))))

-- ---- calls

-- the join of a process, where the desk has it
abbrev pub join_by : ℕ → ℕ → Option Call
join_by processes process = if nat_lt process processes then Some (Join process) else None

-- a field that may be left out is a number where it is there
abbrev pub is_number : Option Data → Bool
is_number None = true
is_number (Some field) = is_some (as_number field >>= as_u64)

-- whether a word, if there is one, stands for any process
abbrev pub is_any : Option (List ℕ) → Bool
is_any None = false
is_any (Some word) = bytes_eq word (codes "any")

-- the join of any process, or of the one that the field names
abbrev pub join_named : ℕ → Data → Option Call
join_named processes value = if is_any (text_field (codes "process") value) then Some JoinAny else number_field (codes "process") value >>= join_by processes

-- the join that the fields ask for; the number of the last edit of which the client was answered that it is done may be left out
abbrev pub join_in : ℕ → Data → Option Call
join_in processes value = if is_number (get (codes "told") value) then join_named processes value else None

-- whether a word, if there is one, is the token
abbrev pub is_token : List ℕ → Option (List ℕ) → Bool
is_token token None = false
is_token token (Some word) = bytes_eq word token

-- whether a join has the token that it has to have, if any
abbrev pub admits : Option (List ℕ) → Data → Bool
admits None value = true
admits (Some token) value = is_token token (text_field (codes "token") value)

-- the key that a text is, if it is one
abbrev pub key_named : List ℕ → Option (List ℕ)
key_named text = if is_key text then Some text else None

-- the key that a field has, if it is one
abbrev pub key_in : Data → Option (List ℕ)
key_in field = as_str field >>= key_named

-- the edit by the process, with the key that its field has, where it has that field
abbrev pub set_with : ℕ → Cell → List ℕ → Option Data → Option Call
set_with process cell text None = Some (Set process cell text)
set_with process cell text (Some field) = key_in field >>= λ key. Some (SetOnce process cell text key)

-- the edit by the process that the fields ask for: a cell of the sheet, and a text; and a key, which may be left out
abbrev pub set_in : Shape → ℕ → Data → Option Call
set_in shape process value = (text_field (codes "cell") value >>= cell_named shape) >>= λ cell. text_field (codes "text") value >>= λ text. set_with process cell text (get (codes "key") value)

-- the undo by the process that the fields ask for: of a cell of the sheet
abbrev pub undo_in : Shape → ℕ → Data → Option Call
undo_in shape process value = (text_field (codes "cell") value >>= cell_named shape) >>= λ cell. Some (Undo process cell)

-- the question that the fields ask: for a cell of the sheet
abbrev pub get_in : Shape → Option ℕ → Data → Option Call
get_in shape joined value = (text_field (codes "cell") value >>= cell_named shape) >>= λ cell. Some (Get joined cell)

-- the question that the fields ask: for the edits from a place on
abbrev pub history_in : Data → Option Call
history_in value = number_field (codes "from") value >>= λ from. Some (Listing from HISTORY_MOST)

-- the question that the fields ask: what became of the edit with a key
abbrev pub resolve_in : Data → Option Call
resolve_in value = (get (codes "key") value >>= key_in) >>= λ key. Some (Resolve key)

-- the call, where the fields have one
abbrev pub or_bad_field : Option Call → Result Call LineFault
or_bad_field None = Err fault.BadField
or_bad_field (Some call) = Ok call

-- the join that the fields ask for, where they have the token
abbrev pub join_with : ℕ → Option (List ℕ) → Data → Result Call LineFault
join_with processes token value = if admits token value then or_bad_field (join_in processes value) else Err fault.Denied

-- a session may read that has joined a process, or has the token that a join has to have, if any
abbrev pub may_read : Option (List ℕ) → Option ℕ → Data → Bool
may_read token None value = admits token value
may_read token (Some process) value = true

-- the call that only reads, where the fields have one, and the session may read
abbrev pub read_with : Option (List ℕ) → Option ℕ → Data → Option Call → Result Call LineFault
read_with token joined value call = if may_read token joined value then or_bad_field call else Err fault.Denied

-- the call of the verb and the fields, by the process that the session has joined, if any: a join where it has none,
-- else one of that process; those that only read need none
abbrev pub call_by : Shape → ℕ → Option (List ℕ) → Option ℕ → Operation → Data → Result Call LineFault
call_by shape processes token joined verb.View value = read_with token joined value (Some (View joined))
call_by shape processes token joined verb.Get value = read_with token joined value (get_in shape joined value)
call_by shape processes token joined verb.History value = read_with token joined value (history_in value)
call_by shape processes token joined verb.Outcome value = read_with token joined value (resolve_in value)
call_by shape processes token None verb.Join value = join_with processes token value
call_by shape processes token (Some process) verb.Join value = Err fault.AlreadyJoined
call_by shape processes token None verb value = Err fault.NotJoined
call_by shape processes token (Some process) verb.Set value = or_bad_field (set_in shape process value)
call_by shape processes token (Some process) verb.Undo value = or_bad_field (undo_in shape process value)
call_by shape processes token (Some process) verb.Report value = Ok (Report process)
call_by shape processes token (Some process) verb.Last value = Ok (Last process)

-- the call, where the word after `op` names a verb
abbrev pub call_with : Shape → ℕ → Option (List ℕ) → Option ℕ → Data → Option Operation → Result Call LineFault
call_with shape processes token joined value None = Err fault.UnknownOp
call_with shape processes token joined value (Some verb) = call_by shape processes token joined verb value

-- the call, where the field `op` is a text
abbrev pub call_op : Shape → ℕ → Option (List ℕ) → Option ℕ → Data → Option (List ℕ) → Result Call LineFault
call_op shape processes token joined value None = Err fault.BadField
call_op shape processes token joined value (Some op) = call_with shape processes token joined value (verb_named op)

-- the call that a value asks for, or the first fault: no text after `op`, an unknown one, not joined or already
-- joined, a join or a question without the token, a bad field
abbrev pub call_of : Shape → ℕ → Option (List ℕ) → Option ℕ → Data → Result Call LineFault
call_of shape processes token joined value = call_op shape processes token joined value (text_field (codes "op") value)

-- the call is one that a session may make which has joined this process, if any: a join of a process of the desk, or
-- a call of its own process, of a cell of the sheet; or one that needs no process
abbrev pub IsCallOf : Shape → ℕ → Option ℕ → Call → Type 0
IsCallOf shape processes joined (Join process) = (joined ≡ None) × (process < processes)
IsCallOf shape processes joined (Set process cell text) = (joined ≡ Some process) × IsInside shape cell
IsCallOf shape processes joined (SetOnce process cell text key) = (joined ≡ Some process) × IsInside shape cell × (is_key key ≡ true)
IsCallOf shape processes joined JoinAny = joined ≡ None
IsCallOf shape processes joined (Undo process cell) = (joined ≡ Some process) × IsInside shape cell
IsCallOf shape processes joined (View by) = joined ≡ by
IsCallOf shape processes joined (Get by cell) = (joined ≡ by) × IsInside shape cell
IsCallOf shape processes joined (Listing from most) = most ≡ HISTORY_MOST
IsCallOf shape processes joined (Resolve key) = is_key key ≡ true
IsCallOf shape processes joined (Report process) = joined ≡ Some process
IsCallOf shape processes joined (Last process) = joined ≡ Some process
IsCallOf shape processes joined (Leave process) = ⊥
