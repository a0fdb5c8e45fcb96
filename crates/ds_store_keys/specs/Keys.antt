-- Keys that clients gave their edits, in the lines of a store.
use Rattle.std.specs.Prelude.{ℕ, ◌≡◌, ◌-◌, List, [], ◌∷◌, ◌++◌, Option, Some, None, codes, drop, length, if◌then◌else◌, unwrap_or}
use Rattle.std.specs.Str.{bytes_eq}
use Rattle.ds_key.specs.Keys.{is_key}
use Rattle.ds_layout.specs.declared.layout.Layout.{Layout}
use Rattle.ds_script_io.specs.ScriptLines.{word_of}
use Rattle.ds_script_io.specs.Fields.{◌>>=◌, number_field, cell_field}
use Rattle.ds_store_journal.specs.Journals.{KeptEdit, after_verb}
use Rattle.ds_store_journal.specs.Standings.{EDITS_LIMIT}
use Rattle.ds_store_keys.specs.declared.line.NamedEdit.{NamedEdit}
use Rattle.ds_store_keys.specs.declared.line.ReadKey.{ReadKey}
use Rattle.ds_store_keys.specs.declared.note.KeyUse.{KeyUse}
use Rattle.ds_store_keys.specs.declared.note.KeyUse.TheVariants.{Edit, Nothing}

-- a key, and the edit that it is of, whose number is here the one by which clients know it; without an edit it is of none, for good
pub record KeptKey : Type 0 where
  pub key : List ℕ
  pub edit : Option KeptEdit

-- the edit that a key is of
abbrev pub edit_of : KeyUse → Option KeptEdit
edit_of (Edit edit) = Some edit
edit_of Nothing = None

-- ---- lines

-- the edit that words name: `PROCESS NUMBER CELL TEXT`; the text is all after the space after the cell
abbrev pub edit_named : Layout → List ℕ → Option KeptEdit
edit_named layout words =
    number_field layout.processes (Some words) >>= λ process.
    number_field EDITS_LIMIT process.1 >>= λ number.
    cell_field layout.shape number.1 >>= λ cell.
    Some (record { process = process.0; number = number.0; cell = cell.0; text = unwrap_or cell.1 [] })

-- what a key is of, by what is after it in its line: of the edit that this names, or of none where there is nothing
abbrev pub named_after : Layout → Option (List ℕ) → Option (Option KeptEdit)
named_after layout None = Some None
named_after layout (Some words) = edit_named layout words >>= λ edit. Some (Some edit)

-- the key that a line has: `# key KEY PROCESS NUMBER CELL TEXT`, or `# key KEY` of one that is of no edit
abbrev pub key_in : Layout → List ℕ → Option KeptKey
key_in layout line =
    after_verb (codes "#") line >>= λ rest.
    after_verb (codes "key") rest >>= λ words.
    if is_key (word_of words).0
    then (named_after layout (word_of words).1 >>= λ edit. Some (record { key = (word_of words).0; edit = edit }))
    else None

-- the edit that was read, as plain bytes
abbrev pub named_view : NamedEdit → KeptEdit
named_view e = record { process = e.process; number = e.number; cell = e.cell; text = e.text.now }

-- what was read that a key is of, as plain bytes
abbrev pub edit_view : Option NamedEdit → Option KeptEdit
edit_view (Some e) = Some (named_view e)
edit_view None = None

-- the key that was read, as plain bytes
abbrev pub read_view : ReadKey → KeptKey
read_view r = record { key = r.key.now; edit = edit_view r.edit }

-- ---- lists of keys

-- this key, where there is one, and then those
abbrev pub with_key : Option KeptKey → List KeptKey → List KeptKey
with_key None keys = keys
with_key (Some key) keys = key ∷ keys

-- the keys that lines have, in their order
unfoldable pub keys_of : Layout → List (List ℕ) → List KeptKey
keys_of layout [] = []
keys_of layout (line ∷ lines) = with_key (key_in layout line) (keys_of layout lines)

-- what a key is of in a list, by the first entry with it; None where the list has it not
unfoldable pub use_of : List ℕ → List KeptKey → Option (Option KeptEdit)
use_of key [] = None
use_of key (k ∷ keys) = if bytes_eq key k.key then Some k.edit else use_of key keys

-- each key stands once
unfoldable pub StandOnce : List KeptKey → Type 0
StandOnce [] = Unit {0}
StandOnce (k ∷ keys) = (use_of k.key keys ≡ None) × StandOnce keys

-- one of these lines says so: it has this key, of this edit
pub record IsSaid (layout : Layout) (lines : List (List ℕ)) (key : KeptKey) : Type 0 where
  pub before : List (List ℕ)
  pub line : List ℕ
  pub after : List (List ℕ)
  pub at : lines ≡ before ++ line ∷ after
  pub says : key_in layout line ≡ Some key

-- how many keys a store takes along to a new sheet
abbrev pub KEYS_MOST : ℕ
KEYS_MOST = 65536

-- the keys that a store takes along: the last ones
abbrev pub carried : List KeptKey → List KeptKey
carried keys = drop (length keys - KEYS_MOST) keys
