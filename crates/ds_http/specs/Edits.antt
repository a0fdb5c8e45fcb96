-- An edit that a request asks for: by its body, and by the field `idempotency-key` of its head.
use Rattle.std.specs.Prelude.{◌≡◌, ℕ, List, Option, Some, None, option_map, bytes_eq, codes, if◌then◌else◌}
use Rattle.http_header.specs.FieldValue.{FieldValue}
use Rattle.serde_json.specs.Data.{Data}
use Rattle.serde_json.specs.Find.{get}
use Rattle.ds_formula.specs.declared.cells.Cell.{Cell}
use Rattle.ds_formula.specs.declared.cells.Shape.{Shape}
use Rattle.ds_formula.specs.Names.{cell_named}
use Rattle.ds_script_io.specs.Fields.{◌>>=◌}
use Rattle.ds_server.specs.declared.request.LineFault.TheVariants as fault
use Rattle.ds_server.specs.LineRequests.{IsJson, IsNoJson, text_field, key_named, key_in}
use Rattle.ds_server.specs.Replies.{Said, Faulted}
use Rattle.ds_server.specs.Desks.{Rules}
use Rattle.ds_http.specs.Taking.{Visits, Sets}

-- a key that is said twice: nothing, where the two differ
abbrev pub same_key : List ℕ → List ℕ → Option (Option (List ℕ))
same_key key other = if bytes_eq key other then Some (Some key) else None

-- the key that an edit is to have, by the value of the head's field, and by the body's: none where neither is there; nothing
-- where one is no key, or the two differ
abbrev pub key_by : Option FieldValue → Option Data → Option (Option (List ℕ))
key_by None None = Some None
key_by None (Some field) = option_map Some (key_in field)
key_by (Some value) None = option_map Some (key_named value.bytes)
key_by (Some value) (Some field) = key_named value.bytes >>= λ key. key_in field >>= λ other. same_key key other

-- the edit that the fields and that value ask for: a cell of the sheet, a text, and a key, if it is to have one
abbrev pub edit_in : Shape → Option FieldValue → Data → Option (Cell × List ℕ × Option (List ℕ))
edit_in shape head value =
    (text_field (codes "cell") value >>= cell_named shape) >>= λ cell. text_field (codes "text") value >>= λ text. key_by head (get (codes "key") value) >>= λ key.
    Some (cell, text, key)

-- what is said to the value of a body and to the head's field, and the desk before and after it: that a field is bad, just where
-- they ask for no edit; or the answer to their edit
pub data PostsValue {B : Type 0} (rules : Rules B) (old : B) (head : Option FieldValue) (value : Data) : Said → B → Type 0 where
  no_edit : edit_in (rules.shape old) head value ≡ None → PostsValue rules old head value (Faulted fault.BadField) old
  edits : (cell : Cell) (text : List ℕ) (key : Option (List ℕ)) (said : Said) (new : B) → edit_in (rules.shape old) head value ≡ Some (cell, text, key)
      → Visits rules old (Sets rules cell text key) said new → PostsValue rules old head value said new

-- what is said to a body and to the head's field: that the body is no JSON, just where it is none; that memory was wanted to read
-- it; or what is said to its value
pub data Posts {B : Type 0} (rules : Rules B) (old : B) (head : Option FieldValue) (body : List ℕ) : Said → B → Type 0 where
  no_json : IsNoJson body → Posts rules old head body (Faulted fault.NotJson) old
  no_memory : Posts rules old head body (Faulted fault.NoMemory) old
  reads : (value : Data) (said : Said) (new : B) → IsJson body value → PostsValue rules old head value said new → Posts rules old head body said new
