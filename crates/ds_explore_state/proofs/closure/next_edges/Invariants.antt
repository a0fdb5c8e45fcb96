use Rattle.std.proofs.Common.{ℕ, ◌<◌, get_or}
use Rattle.std.specs.Prelude.{All}
use Rattle.ds_explore_state.specs.States.{groups_of}
use Rattle.ds_explore_state.specs.declared.choices.Choice.TheVariants.{Happens}
use Rattle.ds_explore_state.specs.declared.position.Move.{Move}
use Rattle.ds_explore_state.specs.Drawn.{CanCome, HasLabel, IsNextEdge}
use Rattle.ds_explore_state.proofs.closure.next_edges.Given as goal

abbrev pub invariant-loop-at : goal.invariant-loop-at
invariant-loop-at l = record {
  each : All (IsNextEdge l.found.states.now (groups_of l.found.touched.now) l.found.allowed l.found.touched.now.places.items l.position l.number) l.edges.items;
  moves : (i : ℕ) (d : Move) → i < l.at → CanCome l.found.allowed l.position (get_or l.moves i d) → HasLabel l.edges.items (Happens (get_or l.moves i d));
}
