use Rattle.std.proofs.Common.{ℕ, ◌≡◌, ◌<◌, List}
use Rattle.std.specs.Prelude.{All, Contains, Some, slice_get}
use Rattle.ds_layout.specs.declared.place.Place.{Place}
use Rattle.ds_explore_state.specs.declared.position.Move.{Move}
use Rattle.ds_explore_state.specs.declared.position.Move.TheVariants.{Evict}
use Rattle.ds_explore_state.specs.Drawn.{IsOf}
use Rattle.ds_explore_state.proofs.choices.add_evictions.Given as goal

abbrev pub invariant-loop-number : goal.invariant-loop-number
invariant-loop-number l = record {
  each : All (IsOf l.places) l.fn.moves.items → All (IsOf l.places) l.moves.items;
  kept : (move : Move) → Contains l.fn.moves.items move → Contains l.moves.items move;
  evictions : (i : ℕ) (place : Place) → i < l.number → slice_get l.places i ≡ Some place → Contains l.moves.items (Evict place);
}
