-- What a client shows of an answer: the lines of a script's answers.
use Rattle.std.specs.Prelude.{ℕ, Bool, true, false, List, [], ◌∷◌, ◌++◌, map, codes, Option, Some, None, option_map, if◌then◌else◌}
use Rattle.ds_script_io.specs.Fields.{◌>>=◌}
use Rattle.std.specs.Fmt.{decimal}
use Rattle.std.specs.List.{concat}
use Rattle.std.specs.Str.{bytes_eq}
use Rattle.csv.specs.Writing.{default_writer, row_text}
use Rattle.serde_json.specs.Data.{Data, null, boolean, Items, no_items, item}
use Rattle.serde_json.specs.Find.{get, as_array, as_str, as_number, as_u64}
use Rattle.ds_formula.specs.declared.cells.Shape.{Shape}
use Rattle.ds_state.specs.declared.recovery.LastEdit.{LastEdit}
use Rattle.ds_state.specs.declared.refusal.Refusal.TheVariants as state
use Rattle.ds_script_io.specs.AnswerTexts.{done_text, refused_text, settled_text}
use Rattle.ds_script.specs.ScriptTexts.{last_text, overtaken_text, unsettled_text, word_line}
use Rattle.ds_server.specs.declared.desk.CallRefusal.{CallRefusal}
use Rattle.ds_server.specs.declared.desk.CallRefusal.TheVariants as refusal
use Rattle.ds_server.specs.declared.request.LineFault.{LineFault}
use Rattle.ds_server.specs.declared.request.LineFault.TheVariants as fault
use Rattle.ds_eval.specs.Numbers.{value_text}
use Rattle.ds_formula.specs.Bytes.{is_space}
use Rattle.ds_formula.specs.Names.{cell_text}
use Rattle.ds_server.specs.Replies.{Said, EditEntry, Joined, JoinedLost, Done, Overtaken, Settled, Unsettled, Tells, GotCell, Listed, Resolved, Left, Refused, Faulted}
use Rattle.ds_server.specs.SessionTexts.{name_of_fault, text_by}

-- the last edit of a process as a recovery of a script reports it
abbrev pub last_lines : Shape → ℕ → Option LastEdit → List ℕ
last_lines shape p None = word_line p (codes "nothing")
last_lines shape p (Some told) = last_text shape p told

-- what is refused by its name alone: P refused NAME
abbrev pub named_lines : ℕ → List ℕ → List ℕ
named_lines p name = decimal p ++ (codes " refused " ++ (name ++ codes "\n"))

-- the refusal of a script; a process that another session has is busy
abbrev pub refusal_lines : ℕ → CallRefusal → List ℕ
refusal_lines p refusal.ProcessTaken = refused_text p state.Busy
refusal_lines p (refusal.Text at) = refused_text p (state.Text at)
refusal_lines p refusal.Stopped = refused_text p state.Stopped
refusal_lines p refusal.RecordsFull = refused_text p state.RecordsFull
refusal_lines p refusal.NoMemory = refused_text p state.NoMemory
refusal_lines p refusal.KeyReused = named_lines p (codes "key-reused")
refusal_lines p refusal.NoEdit = named_lines p (codes "no-edit")
refusal_lines p refusal.NoHistory = named_lines p (codes "no-history")

-- what a client shows of a line that asks for no call: why
abbrev pub fault_lines : ℕ → LineFault → List ℕ
fault_lines p fault.NoMemory = refused_text p state.NoMemory
fault_lines p other = named_lines p (name_of_fault other)

-- a byte of a text in a line: white space is a space
abbrev pub byte_in_line : ℕ → ℕ
byte_in_line b = if is_space b then 32 else b

-- a text at the end of a line: after a space, where it is not empty
abbrev pub ending : List ℕ → List ℕ
ending [] = codes "\n"
ending (b ∷ text) = 32 ∷ (map byte_in_line (b ∷ text) ++ codes "\n")

-- a value in a line: `blank` where it is empty
abbrev pub or_blank : List ℕ → List ℕ
or_blank [] = codes "blank"
or_blank (b ∷ value) = b ∷ value

-- an edit: its process and its number
abbrev pub edit_words : ℕ → ℕ → List ℕ
edit_words process number = decimal process ++ (codes " " ++ decimal number)

-- the edit that a cell is of; without one `- -`
abbrev pub edit_or_none : Option EditEntry → List ℕ
edit_or_none None = codes "- -"
edit_or_none (Some e) = edit_words e.process e.number

-- a cell: its name, its value, and the edit that it is of
abbrev pub got_front : List ℕ → List ℕ → List ℕ → List ℕ
got_front cell value edit = codes "got " ++ (cell ++ (codes " " ++ (or_blank value ++ (codes " " ++ edit))))

-- the same, and its text
abbrev pub got_line : List ℕ → List ℕ → List ℕ → List ℕ → List ℕ
got_line cell value edit text = got_front cell value edit ++ ending text

-- an edit of a list: whose it is, its number and its cell
abbrev pub entry_front : ℕ → ℕ → List ℕ → List ℕ
entry_front process number cell = decimal process ++ (codes " " ++ (decimal number ++ (codes " " ++ cell)))

-- the same, and its text
abbrev pub entry_line : ℕ → ℕ → List ℕ → List ℕ → List ℕ
entry_line process number cell text = entry_front process number cell ++ ending text

-- the same, of an edit
abbrev pub line_of_entry : EditEntry → List ℕ
line_of_entry e = entry_line e.process e.number (cell_text e.cell) e.text

-- what became of the edit with this key: which it is, or that none has it, for good
abbrev pub outcome_line : List ℕ → Option (List ℕ) → List ℕ
outcome_line key None = codes "outcome " ++ (key ++ codes " never\n")
outcome_line key (Some edit) = codes "outcome " ++ (key ++ (codes " done " ++ edit))

-- the line before the edits of a list: from which place on, and how many there are
abbrev pub heading : ℕ → ℕ → List ℕ
heading from of = codes "edits " ++ (decimal from ++ (codes " of " ++ (decimal of ++ codes "\n")))

-- what a client of this process shows of what is said to it, where it has asked for the edit with this key, if for one; that a
-- process is given back is said to nobody
abbrev pub said_lines : ℕ → List ℕ → Shape → Said → List ℕ
said_lines p key shape (Joined process last) = last_lines shape p last
said_lines p key shape (JoinedLost process last) = last_lines shape p last
said_lines p key shape (Done number) = done_text p number
said_lines p key shape (Overtaken number by) = overtaken_text p number by
said_lines p key shape (Settled values) = settled_text shape values
said_lines p key shape (Unsettled place word) = unsettled_text shape place word
said_lines p key shape (Tells last) = last_lines shape p last
said_lines p key shape (GotCell cell value edit) = got_line (cell_text cell) (value_text value) (edit_or_none edit) (text_by edit)
said_lines p key shape (Listed from edits of) = heading from of ++ concat (map line_of_entry edits)
said_lines p key shape (Resolved edit) = outcome_line key (option_map line_of_entry edit)
said_lines p key shape Left = []
said_lines p key shape (Refused why) = refusal_lines p why
said_lines p key shape (Faulted fault) = fault_lines p fault

-- ---- of the JSON of an answer

-- the text of the field with this key
abbrev pub text_at : List ℕ → Data → Option (List ℕ)
text_at key value = get key value >>= as_str

-- the number of the field with this key
abbrev pub number_at : List ℕ → Data → Option ℕ
number_at key value = (get key value >>= as_number) >>= as_u64

-- the line of an edit's number
abbrev pub done_shown : ℕ → Data → Option (List ℕ)
done_shown p value = number_at (codes "number") value >>= λ n. Some (done_text p n)

-- the line of an edit that another one has overtaken
abbrev pub overtaken_shown : ℕ → Data → Option (List ℕ)
overtaken_shown p value =
    number_at (codes "number") value >>= λ n. get (codes "by") value >>= λ by. number_at (codes "process") by >>= λ q. number_at (codes "number") by >>= λ m.
    Some (overtaken_text p n (record { process = q; number = m }))

-- the line of a last edit, or of none
abbrev pub told_shown : ℕ → Data → Option (List ℕ)
told_shown p null = Some (word_line p (codes "nothing"))
told_shown p told =
    number_at (codes "number") told >>= λ n. text_at (codes "cell") told >>= λ cell. text_at (codes "outcome") told >>= λ outcome.
    Some (decimal p ++ (codes " last " ++ (decimal n ++ (codes " " ++ (cell ++ (codes " " ++ (outcome ++ codes "\n")))))))

-- what the field `last` of an answer says
abbrev pub last_shown : ℕ → Data → Option (List ℕ)
last_shown p value = get (codes "last") value >>= told_shown p

-- the line of a place whose word was not at rest: unsettled, the place, the word
abbrev pub place_shown : List ℕ → ℕ → List ℕ
place_shown [] word = codes "unsettled " ++ (decimal word ++ codes "\n")
place_shown (b ∷ place) word = codes "unsettled " ++ ((b ∷ place) ++ (codes " " ++ (decimal word ++ codes "\n")))

-- the same, of the place and the word of an answer
abbrev pub unsettled_shown : Data → Option (List ℕ)
unsettled_shown value = text_at (codes "place") value >>= λ place. number_at (codes "word") value >>= λ word. Some (place_shown place word)

-- the words of an edit, or of none
abbrev pub edit_shown : Data → Option (List ℕ)
edit_shown null = Some (codes "- -")
edit_shown edit = number_at (codes "process") edit >>= λ q. number_at (codes "number") edit >>= λ n. Some (edit_words q n)

-- the line of a cell
abbrev pub got_shown : Data → Option (List ℕ)
got_shown value =
    text_at (codes "cell") value >>= λ cell. text_at (codes "text") value >>= λ text. text_at (codes "value") value >>= λ shown. (get (codes "edit") value >>= edit_shown) >>= λ edit.
    Some (got_line cell shown edit text)

-- the line of an edit of a list
abbrev pub entry_shown : Data → Option (List ℕ)
entry_shown e =
    number_at (codes "process") e >>= λ q. number_at (codes "number") e >>= λ n. text_at (codes "cell") e >>= λ cell. text_at (codes "text") e >>= λ text.
    Some (entry_line q n cell text)

-- the lines of the edits of a list; none where one is no edit
abbrev pub entries_in : Items → Option (List ℕ)
entries_in no_items = Some []
entries_in (item edit edits) = entry_shown edit >>= λ line. entries_in edits >>= λ lines. Some (line ++ lines)

-- the edits from a place on
abbrev pub listed_shown : Data → Option (List ℕ)
listed_shown value =
    number_at (codes "from") value >>= λ from. number_at (codes "of") value >>= λ of. (get (codes "edits") value >>= as_array) >>= λ edits.
    option_map (λ lines. heading from of ++ lines) (entries_in edits)

-- what the field `edit` says of the edit with this key, where the field `outcome` says this
abbrev pub outcome_by : List ℕ → List ℕ → Data → Option (List ℕ)
outcome_by key outcome null = if bytes_eq outcome (codes "never") then Some (outcome_line key None) else None
outcome_by key outcome edit = if bytes_eq outcome (codes "done") then option_map (λ line. outcome_line key (Some line)) (entry_shown edit) else None

-- the line of what became of the edit with this key
abbrev pub outcome_shown : List ℕ → Data → Option (List ℕ)
outcome_shown key value = text_at (codes "outcome") value >>= λ outcome. get (codes "edit") value >>= outcome_by key outcome

-- a text with a fault
abbrev pub text_fault_shown : ℕ → Data → Option (List ℕ)
text_fault_shown p value = text_at (codes "fault") value >>= λ fault. number_at (codes "offset") value >>= λ offset.
    Some (decimal p ++ (codes " refused 1 " ++ (fault ++ (codes " " ++ (decimal offset ++ codes "\n")))))

-- an error by its name
abbrev pub error_shown : ℕ → Data → List ℕ → Option (List ℕ)
error_shown p value name =
    if bytes_eq name (codes "text") then text_fault_shown p value
    else (if bytes_eq name (codes "process-taken") then Some (refused_text p state.Busy)
    else (if bytes_eq name (codes "stopped") then Some (refused_text p state.Stopped)
    else (if bytes_eq name (codes "records-full") then Some (refused_text p state.RecordsFull)
    else (if bytes_eq name (codes "no-memory") then Some (refused_text p state.NoMemory)
    else Some (named_lines p name)))))

-- the texts of a row; none where one of its fields is no text
abbrev pub texts_in : Items → Option (List (List ℕ))
texts_in no_items = Some []
texts_in (item field fields) = as_str field >>= λ text. texts_in fields >>= λ texts. Some (text ∷ texts)

-- the texts of what is to be a row
abbrev pub row_in : Data → Option (List (List ℕ))
row_in row = as_array row >>= texts_in

-- rows as CSV, a record a row; none where one is no row of texts
abbrev pub rows_in : Items → Option (List ℕ)
rows_in no_items = Some []
rows_in (item row rows) = row_in row >>= λ texts. rows_in rows >>= λ lines. Some (row_text default_writer texts ++ lines)

-- a report that is settled, with its values row by row
abbrev pub settled_shown : Data → Option (List ℕ)
settled_shown value = (get (codes "rows") value >>= as_array) >>= λ rows. option_map (λ lines. codes "settled\n" ++ lines) (rows_in rows)

-- an answer of one line by its name
abbrev pub line_shown : ℕ → Data → List ℕ → Option (List ℕ)
line_shown p value name =
    if bytes_eq name (codes "done") then done_shown p value
    else (if bytes_eq name (codes "overtaken") then overtaken_shown p value
    else (if bytes_eq name (codes "unsettled") then unsettled_shown value
    else (if bytes_eq name (codes "join") then last_shown p value
    else (if bytes_eq name (codes "last") then last_shown p value
    else None))))

-- an answer by its name
abbrev pub ok_shown : ℕ → List ℕ → Data → List ℕ → Option (List ℕ)
ok_shown p key value name =
    if bytes_eq name (codes "settled") then settled_shown value
    else (if bytes_eq name (codes "history") then listed_shown value
    else (if bytes_eq name (codes "got") then got_shown value
    else (if bytes_eq name (codes "outcome") then outcome_shown key value
    else line_shown p value name)))

-- an error by its name, if it is one
abbrev pub refused_shown : ℕ → Data → Option (List ℕ)
refused_shown p value = text_at (codes "error") value >>= error_shown p value

-- the lines of an answer, by its name or that of its error; none where it has neither
abbrev pub shown_by : ℕ → List ℕ → Data → Option (List ℕ) → Option (List ℕ)
shown_by p key value (Some name) = ok_shown p key value name
shown_by p key value None = refused_shown p value

-- what a client of this process, which has asked for the edit with this key, if for one, shows of an answer; nothing where it is
-- none of a server's
abbrev pub shown : ℕ → List ℕ → Data → Option (List ℕ)
shown p key value = shown_by p key value (text_at (codes "ok") value)

-- an answer that is said to a client
abbrev pub IsSaid : Said → Type 0
IsSaid Left = ⊥
IsSaid other = Unit {0}

-- the value of a field that says that edits were lost
abbrev pub is_true : Option Data → Bool
is_true (Some (boolean true)) = true
is_true field = false

-- the answer to a join says that edits were lost
abbrev pub says_lost : Data → Bool
says_lost value = is_true (get (codes "lost") value)

-- edits were lost, by what a server says
abbrev pub is_loss : Said → Bool
is_loss (JoinedLost process last) = true
is_loss said = false
