use Rattle.std.proofs.Common.{ℕ, ◌<◌, ◌≡◌, true, false}
use Rattle.std.specs.Prelude.{slice_index_or}
use Rattle.ds_explore_state.proofs.closure.are_marked.Given as goal

abbrev pub invariant-loop-number : goal.invariant-loop-number
invariant-loop-number l = (i : ℕ) → i < l.number → slice_index_or l.marks i false ≡ true
