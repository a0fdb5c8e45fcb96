use Rattle.std.proofs.Common.{◌≡◌, ◌++◌, ℕ, List, map, take}
use Rattle.std.specs.String.{string_bytes}
use Rattle.ds_store_journal.specs.Journals.{KeptEdit}
use Rattle.ds_store_keys.specs.Keys.{KeptKey, keys_of}
use Rattle.ds_store_keys.specs.Tables.{AreKeys}
use Rattle.ds_store.specs.Stores.{GoesOn}
use Rattle.ds_store.specs.Summing.{HaveNoSums}
use Rattle.ds_store.proofs.noting.put_notes.Given as goal

abbrev pub invariant-loop-note : goal.invariant-loop-note
invariant-loop-note l =
    ((counts : List ℕ) (held : List (List ℕ)) (edits : List KeptEdit) → GoesOn l.layout counts (held ++ map string_bytes l.fn.texts.items) edits → GoesOn l.layout counts (held ++ map string_bytes l.texts.items) edits)
    × (keys_of l.layout (map string_bytes l.texts.items) ≡ keys_of l.layout (map string_bytes l.fn.texts.items) ++ take l.note-index l.notes)
    × ((before : List KeptKey) → AreKeys l.fn.table before → AreKeys l.table (before ++ take l.note-index l.notes))
    × (HaveNoSums (map string_bytes l.fn.texts.items) → HaveNoSums (map string_bytes l.texts.items))
