-- Tables of keys.
use Rattle.std.specs.Prelude.{ℕ, ◌≡◌, List, Option, option_map}
use Rattle.std.specs.Str.{bytes_eq}
use Rattle.std.specs.HashMap.{get_by}
use Rattle.ds_store_journal.specs.Journals.{KeptEdit}
use Rattle.ds_store_keys.specs.Keys.{KeptKey, StandOnce, edit_of, use_of}
use Rattle.ds_store_keys.specs.declared.table.KeyTable.{KeyTable}

-- what a key is of, as the table says; None where it has not that key
abbrev pub found : KeyTable → List ℕ → Option (Option KeptEdit)
found table key = option_map edit_of (get_by (λ k. bytes_eq key k.items) table.uses)

-- the table says of each key what these say, of which each stands once
pub record AreKeys (table : KeyTable) (keys : List KeptKey) : Type 0 where
  pub finds : (key : List ℕ) → found table key ≡ use_of key keys
  pub once : StandOnce keys
