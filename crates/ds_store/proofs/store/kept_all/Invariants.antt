use Rattle.std.proofs.Common.{◌≡◌, ◌≤◌, ◌++◌, [], ℕ, List, length, map, take, vec_capacity}
use Rattle.std.specs.String.{string_bytes}
use Rattle.ds_store_journal.specs.Journals.{KeptEdit}
use Rattle.ds_store_keys.specs.Keys.{keys_of}
use Rattle.ds_store.specs.Stores.{GoesOn}
use Rattle.ds_store.specs.Summing.{HaveNoSums}
use Rattle.ds_store.proofs.store.kept_all.Given as goal

abbrev pub invariant-loop-edit : goal.invariant-loop-edit
invariant-loop-edit l =
    ((lines : List (List ℕ)) (before : List KeptEdit) → GoesOn l.layout l.fn.counts.counts.items lines before
    → GoesOn l.layout l.counts.counts.items (lines ++ map string_bytes l.texts.items) (before ++ take l.edit-index l.edits))
    × (length l.texts.items ≡ l.edit-index)
    × (length l.edits ≤ vec_capacity l.texts)
    × (keys_of l.layout (map string_bytes l.texts.items) ≡ [])
    × HaveNoSums (map string_bytes l.texts.items)
    × (length l.counts.counts.items ≡ length l.fn.counts.counts.items)
