use Rattle.std.proofs.Common.{◌≡◌, ◌<◌, ℕ}
use Rattle.std.specs.Prelude.{slice_index_or}
use Rattle.ds_store_keys.specs.Keys.{KeptKey}
use Rattle.ds_store_keys.proofs.notes.are_same.Given as goal

abbrev pub invariant-loop-number : goal.invariant-loop-number
invariant-loop-number l = (k : ℕ) (d : KeptKey) → k < l.number → slice_index_or l.notes k d ≡ slice_index_or l.others k d
