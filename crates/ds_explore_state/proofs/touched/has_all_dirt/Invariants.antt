use Rattle.std.proofs.Common.{ℕ, ◌≡◌, ◌<◌}
use Rattle.std.specs.Prelude.{Some, slice_get}
use Rattle.ds_layout.specs.Places.{place_of}
use Rattle.ds_explore_state.specs.Orders.{HasDirt}
use Rattle.ds_explore_state.proofs.touched.has_all_dirt.Given as goal

abbrev pub invariant-loop-number : goal.invariant-loop-number
invariant-loop-number l = (n : ℕ) → n < l.number → HasDirt l.world (place_of l.layout n) → (i : ℕ) × (slice_get l.places i ≡ Some (place_of l.layout n))
