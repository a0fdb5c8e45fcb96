-- No answer has a float.
use Rattle.std.proofs.Common.{◌≡◌, List, [], ◌∷◌, map, false, refl, Some, None}
use Rattle.serde_json.specs.View.{items_of}
use Rattle.serde_json.specs.Written.{has_float, items_have_float}
use Rattle.ds_formula.specs.declared.cells.Shape.{Shape}
use Rattle.ds_eval.specs.declared.value.Value.{Value}
use Rattle.ds_server.specs.declared.desk.CallRefusal.{CallRefusal}
use Rattle.ds_server.specs.declared.desk.CallRefusal.TheVariants as refusal
use Rattle.ds_server.specs.Replies.{Said, Joined, JoinedLost, Done, Overtaken, Settled, Unsettled, Tells, GotCell, Listed, Resolved, Left, Refused, Faulted, EditEntry}
use Rattle.ds_server.specs.SessionTexts.{value_data, row_data, entry_data, rows_of, said_data, refusal_data}

row_no_float : (values : List Value) → items_have_float (items_of (map value_data values)) ≡ false
row_no_float [] = refl
row_no_float (v ∷ vs) = row_no_float vs

rows_no_float : (rows : List (List Value)) → items_have_float (items_of (map row_data rows)) ≡ false
rows_no_float [] = refl
rows_no_float (r ∷ rs) = rw (row_no_float r) (rows_no_float rs)

entries_no_float : (edits : List EditEntry) → items_have_float (items_of (map entry_data edits)) ≡ false
entries_no_float [] = refl
entries_no_float (e ∷ es) = entries_no_float es

refusal_no_float : (why : CallRefusal) → has_float (refusal_data why) ≡ false
refusal_no_float refusal.ProcessTaken = refl
refusal_no_float (refusal.Text at) = refl
refusal_no_float refusal.Stopped = refl
refusal_no_float refusal.RecordsFull = refl
refusal_no_float refusal.NoMemory = refl
refusal_no_float refusal.KeyReused = refl
refusal_no_float refusal.NoEdit = refl
refusal_no_float refusal.NoHistory = refl

-- no answer has a float
pub said_no_float : (shape : Shape) (said : Said) → has_float (said_data shape said) ≡ false
said_no_float shape (Joined process None) = refl
said_no_float shape (Joined process (Some told)) = refl
said_no_float shape (JoinedLost process None) = refl
said_no_float shape (JoinedLost process (Some told)) = refl
said_no_float shape (Done n) = refl
said_no_float shape (Overtaken n by) = refl
said_no_float shape (Settled values) = rw (rows_no_float (rows_of shape.columns shape.rows values)) refl
said_no_float shape (Unsettled place word) = refl
said_no_float shape (Tells None) = refl
said_no_float shape (Tells (Some told)) = refl
said_no_float shape (GotCell cell value None) = refl
said_no_float shape (GotCell cell value (Some edit)) = refl
said_no_float shape (Listed from edits of) = rw (entries_no_float edits) refl
said_no_float shape (Resolved None) = refl
said_no_float shape (Resolved (Some edit)) = refl
said_no_float shape Left = refl
said_no_float shape (Refused why) = refusal_no_float why
said_no_float shape (Faulted fault) = refl
