use Rattle.std.proofs.Common.{◌≡◌, ◌<◌, ℕ}
use Rattle.std.specs.Prelude.{Vec, slice_index_or}
use Rattle.std.specs.Global.{Global}
use Rattle.ds_store.proofs.texts.are_same.Given as goal

abbrev pub invariant-loop-number : goal.invariant-loop-number
invariant-loop-number l = (k : ℕ) (d : Vec ℕ Global) → k < l.number → (slice_index_or l.others k d).items ≡ (slice_index_or l.texts k d).items
