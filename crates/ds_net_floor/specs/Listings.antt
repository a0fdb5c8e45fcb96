-- The edits that a store lists, as clients know them.
use Rattle.std.specs.Prelude.{◌≡◌, ◌+◌, ℕ, List, [], ◌∷◌, Option, Some, None, length}
use Rattle.ds_layout.specs.declared.layout.Layout.{Layout}
use Rattle.ds_server.specs.Replies as said
use Rattle.ds_store_edits.specs.JournalEdits.{EntryValue, entries_of}
use Rattle.ds_store_edits.specs.declared.edits.Maker.{Maker}
use Rattle.ds_store_keys.specs.Keys.{keys_of}
use Rattle.ds_store_keys.specs.Tables.{AreKeys}
use Rattle.ds_net_floor.specs.Entries.{entries}
use Rattle.ds_net_floor.specs.declared.edit_list.EditList.{EditList}

-- who made the edit with this place in the list: its maker; or, of a text that the sheet began with, this process, which is
-- nobody, with the place as its number
abbrev pub made_by : ℕ → ℕ → Option Maker → Maker
made_by nobody place None = record { process = nobody; number = place }
made_by nobody place (Some maker) = maker

-- the edit with this place, as clients know it: who made it, its cell and its text
abbrev pub listed_as : ℕ → ℕ → EntryValue → said.EditEntry
listed_as nobody place entry = record {
  process = (made_by nobody place entry.maker).process;
  number = (made_by nobody place entry.maker).number;
  cell = entry.cell;
  text = entry.text;
}

-- these edits, the first of which has this place
unfoldable pub listed_from : ℕ → ℕ → List EntryValue → List said.EditEntry
listed_from nobody place [] = []
listed_from nobody place (entry ∷ entries) = listed_as nobody place entry ∷ listed_from nobody (place + 1) entries

-- the edits that the lines of a journal keep
abbrev pub listed_in : Layout → ℕ → List (List ℕ) → List said.EditEntry
listed_in layout nobody [] = []
listed_in layout nobody (first ∷ lines) = listed_from nobody 0 (entries_of layout (first ∷ []) lines)

-- the list has the edits that the lines keep, and no more so far, and their keys; texts that the sheet began with are as of the
-- first process that nobody may join
pub record IsListOf (layout : Layout) (joins : ℕ) (lines : List (List ℕ)) (list : EditList) : Type 0 where
  pub listed : entries list ≡ listed_in layout joins lines
  pub nobody_is : list.nobody ≡ joins
  pub begun : list.begun ≡ length list.edits.items
  pub none_since : list.since.items ≡ []
  pub keys_are : AreKeys list.keys (keys_of layout lines)
