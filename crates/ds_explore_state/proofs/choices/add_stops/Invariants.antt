use Rattle.std.proofs.Common.{ℕ, ◌<◌, List}
use Rattle.std.specs.Prelude.{All, Contains}
use Rattle.ds_layout.specs.declared.place.Place.{Place}
use Rattle.ds_explore_state.specs.declared.position.Move.{Move}
use Rattle.ds_explore_state.specs.declared.position.Move.TheVariants.{Stop}
use Rattle.ds_explore_state.specs.Drawn.{IsOf}
use Rattle.ds_explore_state.proofs.choices.add_stops.Given as goal

abbrev pub invariant-loop-process : goal.invariant-loop-process
invariant-loop-process l = record {
  each : (places : List Place) → All (IsOf places) l.fn.moves.items → All (IsOf places) l.moves.items;
  kept : (move : Move) → Contains l.fn.moves.items move → Contains l.moves.items move;
  stops : (p : ℕ) → p < l.process → Contains l.moves.items (Stop p);
}
