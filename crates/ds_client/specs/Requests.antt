-- The line that a client sends for what is asked.
use Rattle.std.specs.Prelude.{ℕ, List, [], ◌∷◌, ◌++◌, Option, Some, None, codes}
use Rattle.serde_json.specs.Data.{Data, Members, object, no_members, member}
use Rattle.serde_json.specs.Written.{compact_text}
use Rattle.ds_formula.specs.declared.cells.Cell.{Cell}
use Rattle.ds_formula.specs.declared.cells.Shape.{Shape}
use Rattle.ds_formula.specs.Names.{cell_named}
use Rattle.ds_script_io.specs.Fields.{◌>>=◌}
use Rattle.ds_server.specs.LineRequests.{key_named}
use Rattle.ds_server.specs.DeskCalls.{Call}
use Rattle.ds_server.specs.DeskCalls as calls
use Rattle.ds_server.specs.SessionTexts.{number_data, text_data}
use Rattle.ds_client.specs.Asks.{Wish, Join, JoinAny, Set, Undo, Report, View, Get, History, Outcome, Last}

-- the number of the last edit that was answered done, if any, as the last field
abbrev pub with_done : Option ℕ → Members
with_done None = no_members
with_done (Some done) = member (codes "told") (number_data done) no_members

-- a token, if any, as a field before these
abbrev pub with_token : Option (List ℕ) → Members → Members
with_token None members = members
with_token (Some token) members = member (codes "token") (text_data token) members

-- what is asked of a cell, with a token, if any, as JSON: {"cell":"A1","op":"get"}
abbrev pub of_cell_data : List ℕ → List ℕ → Option (List ℕ) → Data
of_cell_data op cell token = object (member (codes "cell") (text_data cell) (member (codes "op") (text_data op) (with_token token no_members)))

-- a key, if any, as a field before these
abbrev pub with_key : Option (List ℕ) → Members → Members
with_key None members = members
with_key (Some key) members = member (codes "key") (text_data key) members

-- what is asked, as JSON: {"op":"set","cell":"A1","text":"=1+2"}, with its keys in byte order
abbrev pub wish_data : Wish → Data
wish_data (Join process done token) = object (member (codes "op") (text_data (codes "join")) (member (codes "process") (number_data process) (with_token token (with_done done))))
wish_data (Set cell text key) = object (member (codes "cell") (text_data cell) (with_key key (member (codes "op") (text_data (codes "set")) (member (codes "text") (text_data text) no_members))))
wish_data (JoinAny token) = object (member (codes "op") (text_data (codes "join")) (member (codes "process") (text_data (codes "any")) (with_token token no_members)))
wish_data (Undo cell) = of_cell_data (codes "undo") cell None
wish_data (Get cell token) = of_cell_data (codes "get") cell token
wish_data (History from token) = object (member (codes "from") (number_data from) (member (codes "op") (text_data (codes "history")) (with_token token no_members)))
wish_data (Outcome key token) = object (member (codes "key") (text_data key) (member (codes "op") (text_data (codes "outcome")) (with_token token no_members)))
wish_data (View token) = object (member (codes "op") (text_data (codes "view")) (with_token token no_members))
wish_data Report = object (member (codes "op") (text_data (codes "report")) no_members)
wish_data Last = object (member (codes "op") (text_data (codes "last")) no_members)

-- its line
abbrev pub wish_text : Wish → List ℕ
wish_text wish = compact_text (wish_data wish) ++ 10 ∷ []

-- the edit by the process, with this key, if any, where that is one
abbrev pub edit_with : ℕ → Cell → List ℕ → Option (List ℕ) → Option Call
edit_with process at text None = Some (calls.Set process at text)
edit_with process at text (Some key) = key_named key >>= λ known. Some (calls.SetOnce process at text known)

-- the same of the cell of this name, where the sheet has one
abbrev pub edit_named : Shape → ℕ → List ℕ → List ℕ → Option (List ℕ) → Option Call
edit_named shape process cell text key = cell_named shape cell >>= λ at. edit_with process at text key

-- the question for the edit with this key, where that is one
abbrev pub outcome_named : List ℕ → Option Call
outcome_named key = key_named key >>= λ known. Some (calls.Resolve known)

-- the undo by the process of the cell of this name, where the sheet has one
abbrev pub undo_named : Shape → ℕ → List ℕ → Option Call
undo_named shape process cell = cell_named shape cell >>= λ at. Some (calls.Undo process at)

-- the question for the cell of this name, where the sheet has one
abbrev pub get_named : Shape → Option ℕ → List ℕ → Option Call
get_named shape joined cell = cell_named shape cell >>= λ at. Some (calls.Get joined at)
