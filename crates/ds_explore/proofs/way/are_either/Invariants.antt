use Rattle.std.proofs.Common.{ℕ, ◌<◌, ◌≡◌, false, true}
use Rattle.std.specs.Prelude.{◌⊎◌, slice_index_or}
use Rattle.ds_explore.proofs.way.are_either.Given as goal

abbrev pub invariant-loop-number : goal.invariant-loop-number
invariant-loop-number l = (i : ℕ) → i < l.number → (slice_index_or l.these i false ≡ true) ⊎ (slice_index_or l.those i false ≡ true)
