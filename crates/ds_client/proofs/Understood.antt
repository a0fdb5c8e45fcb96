-- What a server reads of a request, and what a client shows of an answer.
use Rattle.std.proofs.Common.{◌≡◌, ◌∙◌, ℕ, zero, suc, Bool, true, false, refl, ap, sym, List, [], ◌∷◌, ◌++◌, map, take, drop, Some, None, Ok, Err, codes, append_assoc}
use Rattle.std.specs.Prelude.{Option, option_map}
use Rattle.std.specs.Fmt.{decimal}
use Rattle.std.specs.List.{concat}
use Rattle.csv.specs.Writing.{default_writer, row_text}
use Rattle.serde_json.specs.View.{items_of}
use Rattle.ds_eval.specs.declared.value.Value.{Value}
use Rattle.ds_eval.specs.Numbers.{value_text}
use Rattle.ds_script_io.specs.AnswerTexts.{rows_text}
use Rattle.ds_script_io.specs.Fields.{◌>>=◌}
use Rattle.ds_formula.specs.declared.cells.Shape.{Shape}
use Rattle.ds_formula.specs.Names.{cell_text, name_of_kind}
use Rattle.ds_formula.specs.Cells.{cell_at}
use Rattle.ds_layout.specs.declared.place.Place.TheVariants as place
use Rattle.ds_state.specs.declared.recovery.LastEdit.{LastEdit}
use Rattle.ds_script.specs.ScriptTexts.{counts_text}
use Rattle.std.specs.Prelude.{if◌then◌else◌}
use Rattle.std.proofs.lemmas.Slice.Eq.{bytes_eq-Decides}
use Rattle.ds_server.specs.LineRequests.{call_of, join_by, number_field, or_bad_field}
use Rattle.ds_server.specs.DeskCalls.{JoinAny as JoinsAny, Listing, View as Views}
use Rattle.ds_server.specs.SessionLimits.{HISTORY_MOST}
use Rattle.ds_server.specs.declared.desk.CallRefusal.TheVariants as refusal
use Rattle.ds_server.specs.declared.request.LineFault.TheVariants as fault
use Rattle.ds_server.specs.Replies.{Said, Joined, JoinedLost, Done, Overtaken, Settled, Unsettled, Tells, EditEntry, GotCell, Listed, Resolved, Left, Refused, Faulted}
use Rattle.ds_server.specs.SessionTexts.{entry_data, said_data, outcome_text, row_data, rows_of, value_data}
use Rattle.ds_client.specs.AnswerLines.{IsSaid, entries_in, heading, is_loss, line_of_entry, says_lost, rows_in, said_lines, shown, texts_in}
use Rattle.ds_client.specs.Asks.{Get, History, Join, JoinAny, Outcome, Set, Undo, View}
use Rattle.ds_client.specs.Requests.{edit_named, get_named, outcome_named, undo_named, wish_data}

-- a join is read as one
pub joins : (shape : Shape) (processes process : ℕ) (done : Option ℕ) (token : Option (List ℕ)) → call_of shape processes None None (wish_data (Join process done token)) ≡ or_bad_field (join_by processes process)
joins shape processes process None None = refl
joins shape processes process None (Some token) = refl
joins shape processes process (Some done) None = refl
joins shape processes process (Some done) (Some token) = refl

-- the same of a server with a token, where it is given
pub joins_with : (shape : Shape) (processes process : ℕ) (done : Option ℕ) (token : List ℕ) → call_of shape processes (Some token) None (wish_data (Join process done (Some token))) ≡ or_bad_field (join_by processes process)
joins_with shape processes process None token = ap (λ (b : Bool). if b then or_bad_field (join_by processes process) else Err fault.Denied) ((bytes_eq-Decides token token).1 refl)
joins_with shape processes process (Some done) token = ap (λ (b : Bool). if b then or_bad_field (join_by processes process) else Err fault.Denied) ((bytes_eq-Decides token token).1 refl)

-- the number of the last edit that was answered done is read
pub said_done : (process : ℕ) (done : Option ℕ) (token : Option (List ℕ)) → number_field (codes "told") (wish_data (Join process done token)) ≡ done
said_done process None None = refl
said_done process None (Some token) = refl
said_done process (Some done) None = refl
said_done process (Some done) (Some token) = refl

-- an edit is read as one of the cell of that name
pub sets : (shape : Shape) (processes process : ℕ) (token : Option (List ℕ)) (cell text : List ℕ) (key : Option (List ℕ))
    → call_of shape processes token (Some process) (wish_data (Set cell text key)) ≡ or_bad_field (edit_named shape process cell text key)
sets shape processes process token cell text None = refl
sets shape processes process token cell text (Some key) = refl

-- a join of any process is read as one
pub joins_any : (shape : Shape) (processes : ℕ) (token : Option (List ℕ)) → call_of shape processes token None (wish_data (JoinAny token)) ≡ Ok JoinsAny
joins_any shape processes None = refl
joins_any shape processes (Some token) = ap (λ (b : Bool). if b then Ok JoinsAny else Err fault.Denied) ((bytes_eq-Decides token token).1 refl)

-- an undo is read as one of the cell of that name
pub undoes : (shape : Shape) (processes process : ℕ) (token : Option (List ℕ)) (cell : List ℕ) → call_of shape processes token (Some process) (wish_data (Undo cell)) ≡ or_bad_field (undo_named shape process cell)
undoes shape processes process token cell = refl

-- a question for all values is read as one
pub views : (shape : Shape) (processes : ℕ) (joined : Option ℕ) (token : Option (List ℕ)) → call_of shape processes token joined (wish_data (View token)) ≡ Ok (Views joined)
views shape processes (Some process) None = refl
views shape processes (Some process) (Some token) = refl
views shape processes None None = refl
views shape processes None (Some token) = ap (λ (b : Bool). if b then Ok (Views None) else Err fault.Denied) ((bytes_eq-Decides token token).1 refl)

-- a question for a cell is read as one for the cell of that name
pub gets : (shape : Shape) (processes : ℕ) (joined : Option ℕ) (token : Option (List ℕ)) (cell : List ℕ) → call_of shape processes token joined (wish_data (Get cell token)) ≡ or_bad_field (get_named shape joined cell)
gets shape processes (Some process) None cell = refl
gets shape processes (Some process) (Some token) cell = refl
gets shape processes None None cell = refl
gets shape processes None (Some token) cell = ap (λ (b : Bool). if b then or_bad_field (get_named shape None cell) else Err fault.Denied) ((bytes_eq-Decides token token).1 refl)

-- a question for the edits is read as one for those from that place on
pub lists : (shape : Shape) (processes from : ℕ) (joined : Option ℕ) (token : Option (List ℕ)) → call_of shape processes token joined (wish_data (History from token)) ≡ Ok (Listing from HISTORY_MOST)
lists shape processes from (Some process) None = refl
lists shape processes from (Some process) (Some token) = refl
lists shape processes from None None = refl
lists shape processes from None (Some token) = ap (λ (b : Bool). if b then Ok (Listing from HISTORY_MOST) else Err fault.Denied) ((bytes_eq-Decides token token).1 refl)

-- a question for the edit with a key is read as one for that key
pub resolves : (shape : Shape) (processes : ℕ) (joined : Option ℕ) (token : Option (List ℕ)) (key : List ℕ) → call_of shape processes token joined (wish_data (Outcome key token)) ≡ or_bad_field (outcome_named key)
resolves shape processes (Some process) None key = refl
resolves shape processes (Some process) (Some token) key = refl
resolves shape processes None None key = refl
resolves shape processes None (Some token) key = ap (λ (b : Bool). if b then or_bad_field (outcome_named key) else Err fault.Denied) ((bytes_eq-Decides token token).1 refl)

outcome_is : (counts : Bool) → outcome_text counts ≡ counts_text counts
outcome_is true = refl
outcome_is false = refl

told_is : (p : ℕ) (shape : Shape) (told : LastEdit) (outcome : List ℕ) → outcome ≡ counts_text told.counts
    → decimal p ++ (codes " last " ++ (decimal told.number ++ (codes " " ++ (cell_text (cell_at shape told.cell) ++ (codes " " ++ (outcome ++ codes "\n"))))))
    ≡ decimal p ++ (codes " last " ++ (decimal told.number ++ (codes " " ++ (cell_text (cell_at shape told.cell) ++ (codes " " ++ (counts_text told.counts ++ codes "\n"))))))
told_is p shape told outcome is =
    ap (λ (o : List ℕ). decimal p ++ (codes " last " ++ (decimal told.number ++ (codes " " ++ (cell_text (cell_at shape told.cell) ++ (codes " " ++ (o ++ codes "\n"))))))) is

-- the texts of a row are those of its values
texts_are : (values : List Value) → texts_in (items_of (map value_data values)) ≡ Some (map value_text values)
texts_are [] = refl
texts_are (value ∷ values) = ap (λ (o : Option (List (List ℕ))). o >>= λ texts. Some (value_text value ∷ texts)) (texts_are values)

-- the rows are those of the values
rows_are : (columns rows : ℕ) (values : List Value) → rows_in (items_of (map row_data (rows_of columns rows values))) ≡ Some (rows_text columns rows values)
rows_are columns zero values = refl
rows_are columns (suc rows) values =
    ap (λ (o : Option (List (List ℕ))). o >>= λ texts. rows_in (items_of (map row_data (rows_of columns rows (drop columns values)))) >>= λ lines. Some (row_text default_writer texts ++ lines)) (texts_are (take columns values))
    ∙ ap (λ (o : Option (List ℕ)). o >>= λ lines. Some (row_text default_writer (map value_text (take columns values)) ++ lines)) (rows_are columns rows (drop columns values))

-- the lines of the edits of a list
entries_are : (edits : List EditEntry) → entries_in (items_of (map entry_data edits)) ≡ Some (concat (map line_of_entry edits))
entries_are [] = refl
entries_are (e ∷ es) = ap (λ (o : Option (List ℕ)). o >>= λ lines. Some (line_of_entry e ++ lines)) (entries_are es)

-- what a client shows of what a server says
pub shows : (process : ℕ) (key : List ℕ) (shape : Shape) (said : Said) → IsSaid said → shown process key (said_data shape said) ≡ Some (said_lines process key shape said)
shows p key shape (Joined q None) h = refl
shows p key shape (Joined q (Some told)) h = ap Some (told_is p shape told (outcome_text told.counts) (outcome_is told.counts))
shows p key shape (JoinedLost q None) h = refl
shows p key shape (JoinedLost q (Some told)) h = ap Some (told_is p shape told (outcome_text told.counts) (outcome_is told.counts))
shows p key shape (Done n) h = refl
shows p key shape (Overtaken n by) h = refl
shows p key shape (Settled values) h = ap (option_map (λ (lines : List ℕ). codes "settled\n" ++ lines)) (rows_are shape.columns shape.rows values)
shows p key shape (Unsettled (place.Mark cell) word) h = refl
shows p key shape (Unsettled (place.Announce q) word) h = refl
shows p key shape (Unsettled other word) h = refl
shows p key shape (Tells None) h = refl
shows p key shape (Tells (Some told)) h = ap Some (told_is p shape told (outcome_text told.counts) (outcome_is told.counts))
shows p key shape (GotCell cell value None) h = refl
shows p key shape (GotCell cell value (Some edit)) h = refl
shows p key shape (Listed from edits of) h = ap (option_map (λ (lines : List ℕ). heading from of ++ lines)) (entries_are edits)
shows p key shape (Resolved None) h = refl
shows p key shape (Resolved (Some edit)) h = refl
shows p key shape Left h = absurd h
shows p key shape (Refused refusal.ProcessTaken) h = refl
shows p key shape (Refused (refusal.Text at)) h =
    ap (λ (tail : List ℕ). Some (decimal p ++ (codes " refused 1 " ++ tail))) (fault_is (name_of_kind at.kind) (decimal at.offset)) where
      fault_is : (name offset : List ℕ) → name ++ (codes " " ++ (offset ++ codes "\n")) ≡ (name ++ (codes " " ++ offset)) ++ codes "\n"
      fault_is name offset = sym (append_assoc name (codes " " ++ offset) (codes "\n"))
shows p key shape (Refused refusal.Stopped) h = refl
shows p key shape (Refused refusal.RecordsFull) h = refl
shows p key shape (Refused refusal.NoMemory) h = refl
shows p key shape (Refused refusal.KeyReused) h = refl
shows p key shape (Refused refusal.NoEdit) h = refl
shows p key shape (Refused refusal.NoHistory) h = refl
shows p key shape (Faulted fault.NotJson) h = refl
shows p key shape (Faulted fault.UnknownOp) h = refl
shows p key shape (Faulted fault.BadField) h = refl
shows p key shape (Faulted fault.LineTooLong) h = refl
shows p key shape (Faulted fault.NotJoined) h = refl
shows p key shape (Faulted fault.AlreadyJoined) h = refl
shows p key shape (Faulted fault.NoMemory) h = refl
shows p key shape (Faulted fault.Denied) h = refl

-- what a client reads of lost edits
pub losses : (shape : Shape) (said : Said) → says_lost (said_data shape said) ≡ is_loss said
losses shape (Joined process last) = refl
losses shape (JoinedLost process last) = refl
losses shape (Done number) = refl
losses shape (Overtaken number by) = refl
losses shape (Settled values) = refl
losses shape (Unsettled place word) = refl
losses shape (Tells last) = refl
losses shape (GotCell cell value None) = refl
losses shape (GotCell cell value (Some edit)) = refl
losses shape (Listed from edits of) = refl
losses shape (Resolved None) = refl
losses shape (Resolved (Some edit)) = refl
losses shape Left = refl
losses shape (Refused refusal.ProcessTaken) = refl
losses shape (Refused (refusal.Text at)) = refl
losses shape (Refused refusal.Stopped) = refl
losses shape (Refused refusal.RecordsFull) = refl
losses shape (Refused refusal.NoMemory) = refl
losses shape (Refused refusal.KeyReused) = refl
losses shape (Refused refusal.NoEdit) = refl
losses shape (Refused refusal.NoHistory) = refl
losses shape (Faulted fault) = refl
