-- The lines of keys as they are written.
use Rattle.std.specs.Prelude.{ℕ, ◌≡◌, ◌<◌, ◌++◌, List, Option, Some, None, codes, true, ⊤}
use Rattle.std.specs.Fmt.{decimal}
use Rattle.ds_formula.specs.Names.{cell_text}
use Rattle.ds_key.specs.Keys.{is_key}
use Rattle.ds_layout.specs.declared.layout.Layout.{Layout}
use Rattle.ds_store_journal.specs.Faults.{HasLine}
use Rattle.ds_store_journal.specs.Journals.{KeptEdit}
use Rattle.ds_store_journal.specs.Standings.{EDITS_LIMIT}
use Rattle.ds_store_keys.specs.Keys.{KeptKey}

-- the words that name an edit
abbrev pub edit_words : KeptEdit → List ℕ
edit_words edit = decimal edit.process ++ (codes " " ++ (decimal edit.number ++ (codes " " ++ (cell_text edit.cell ++ (codes " " ++ edit.text)))))

-- a key, and the edit that it is of after it, where it is of one
abbrev pub key_words : List ℕ → Option KeptEdit → List ℕ
key_words key None = key
key_words key (Some edit) = key ++ (codes " " ++ edit_words edit)

-- the line that keeps a key
abbrev pub key_text : KeptKey → List ℕ
key_text key = codes "# key " ++ key_words key.key key.edit

-- a key may be of this edit of a sheet of this layout: the edit has a line, and its number is below 2^53
pub record MayBeOf (layout : Layout) (edit : KeptEdit) : Type 0 where
  pub line : HasLine layout edit
  pub number : edit.number < EDITS_LIMIT

-- it may be of this edit, or is of none
abbrev pub MayBeOfAny : Layout → Option KeptEdit → Type 0
MayBeOfAny layout None = ⊤
MayBeOfAny layout (Some edit) = MayBeOf layout edit

-- a key has a line in a store of a sheet of this layout: its text is that of a key, and it may be of what it is of
pub record HasKeyLine (layout : Layout) (kept : KeptKey) : Type 0 where
  pub key : is_key kept.key ≡ true
  pub edit : MayBeOfAny layout kept.edit
