-- What a line of a client asks for: `set CELL TEXT`, `undo CELL`, `report`, `view`, `get CELL`, `history`, `history FROM`,
-- `outcome KEY`, `last`.
use Rattle.std.specs.Prelude.{ℕ, ◌≡◌, ◌⊎◌, ◌^◌, List, [], Option, Some, None, option_map, codes, if◌then◌else◌, IsUtf8}
use Rattle.std.specs.Str.{bytes_eq}
use Rattle.ds_script_io.specs.ScriptLines.{word_of}
use Rattle.ds_script_io.specs.Fields.{number_below}
use Rattle.ds_client.specs.declared.ask.Ask.{Ask}
use Rattle.ds_client.specs.declared.ask.AskFault.{AskFault}
use Rattle.ds_client.specs.declared.ask.AskFault.TheVariants.{NoLine, NoText}
use Rattle.ds_client.specs.declared.ask.Ask.TheVariants as asks

-- what is asked for, as plain data: a join of a process, by a client that was answered that its edit of this number is done, if
-- any, with this token, if any; a join of any process, with this token, if any; an edit of a cell to a text, with
-- this key, if any; an edit to the text before; a report; the last edit; and, with this token, if any, what may be asked without
-- a process: a report, what a cell is, the edits from a place on, what became of the edit with a key
pub data Wish : Type 0 where
  Join : ℕ → Option ℕ → Option (List ℕ) → Wish
  JoinAny : Option (List ℕ) → Wish
  Set : List ℕ → List ℕ → Option (List ℕ) → Wish
  Undo : List ℕ → Wish
  Report : Wish
  View : Option (List ℕ) → Wish
  Get : List ℕ → Option (List ℕ) → Wish
  History : ℕ → Option (List ℕ) → Wish
  Outcome : List ℕ → Option (List ℕ) → Wish
  Last : Wish

-- what is asked for, without its borrows
abbrev pub wish_view : Ask → Wish
wish_view (asks.Join process done token) = Join process done (option_map (λ t. t.now) token)
wish_view (asks.Set cell text key) = Set cell.now text.now (option_map (λ k. k.now) key)
wish_view (asks.JoinAny token) = JoinAny (option_map (λ t. t.now) token)
wish_view (asks.Undo cell) = Undo cell.now
wish_view (asks.Get cell token) = Get cell.now (option_map (λ t. t.now) token)
wish_view (asks.History from token) = History from (option_map (λ t. t.now) token)
wish_view (asks.Outcome key token) = Outcome key.now (option_map (λ t. t.now) token)
wish_view (asks.View token) = View (option_map (λ t. t.now) token)
wish_view asks.Report = Report
wish_view asks.Last = Last

-- a text that may be missing
abbrev pub or_empty : Option (List ℕ) → List ℕ
or_empty None = []
or_empty (Some text) = text

-- the edit of this cell to the text after the space; without one the cell is to be blank
abbrev pub set_by : List ℕ × Option (List ℕ) → Option Wish
set_by (cell, text) = Some (Set cell (or_empty text) None)

-- a command that takes no word
abbrev pub alone : Wish → Option (List ℕ) → Option Wish
alone wish None = Some wish
alone wish (Some words) = None

-- the edit that these words ask for: a cell, and a text
abbrev pub set_of : Option (List ℕ) → Option Wish
set_of None = None
set_of (Some words) = set_by (word_of words)

-- a word that nothing comes after
abbrev pub only_word : List ℕ × Option (List ℕ) → Option (List ℕ)
only_word (word, None) = Some word
only_word (word, Some rest) = None

-- the one word that is there
abbrev pub one_word : Option (List ℕ) → Option (List ℕ)
one_word None = None
one_word (Some words) = only_word (word_of words)

-- the place that is asked for: a number below 2^32, or the first place without one
abbrev pub place_of : Option (List ℕ) → Option ℕ
place_of None = Some 0
place_of (Some words) = number_below (2 ^ 32) words

-- the question for the cell of this name
abbrev pub get_of : List ℕ → Wish
get_of cell = Get cell None

-- the question for the edits from this place on
abbrev pub history_of : ℕ → Wish
history_of from = History from None

-- the question for the edit with this key
abbrev pub outcome_of : List ℕ → Wish
outcome_of key = Outcome key None

-- what is asked for by the first word and what is after it
abbrev pub wish_by : List ℕ × Option (List ℕ) → Option Wish
wish_by (name, words) =
    if bytes_eq name (codes "set") then set_of words
    else (if bytes_eq name (codes "undo") then option_map Undo (one_word words)
    else (if bytes_eq name (codes "report") then alone Report words
    else (if bytes_eq name (codes "view") then alone (View None) words
    else (if bytes_eq name (codes "get") then option_map get_of (one_word words)
    else (if bytes_eq name (codes "history") then option_map history_of (place_of words)
    else (if bytes_eq name (codes "outcome") then option_map outcome_of (one_word words)
    else (if bytes_eq name (codes "last") then alone Last words
    else None)))))))

-- what a line asks for; nothing where it is no line of a client
abbrev pub wish_of : List ℕ → Option Wish
wish_of line = wish_by (word_of line)

-- what is asked for has a word that is not UTF-8, so that JSON cannot have it
abbrev pub HasNoText : Option Wish → Type 0
HasNoText (Some (Set cell text key)) = (IsUtf8 cell → ⊥) ⊎ (IsUtf8 text → ⊥)
HasNoText (Some (Undo cell)) = IsUtf8 cell → ⊥
HasNoText (Some (Get cell token)) = IsUtf8 cell → ⊥
HasNoText (Some (Outcome key token)) = IsUtf8 key → ⊥
HasNoText wish = ⊥

-- the same, asked with this token, if any, where it may be asked without a process
abbrev pub bearing : Option (List ℕ) → Wish → Wish
bearing token (View other) = View token
bearing token (Get cell other) = Get cell token
bearing token (History from other) = History from token
bearing token (Outcome key other) = Outcome key token
bearing token wish = wish

-- the same with this key, if any, where it is an edit to a text
abbrev pub keyed : Option (List ℕ) → Wish → Wish
keyed key (Set cell text other) = Set cell text key
keyed key wish = wish

-- why nothing is sent for a line: it asks for nothing, or what it asks for has a word that is not UTF-8
abbrev pub AsksNothing : Option Wish → AskFault → Type 0
AsksNothing wish NoLine = wish ≡ None
AsksNothing wish NoText = HasNoText wish
