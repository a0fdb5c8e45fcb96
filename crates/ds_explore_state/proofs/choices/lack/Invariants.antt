use Rattle.std.proofs.Common.{ℕ, ◌<◌, ◌≡◌, get_or}
use Rattle.std.specs.Prelude.{◌≢◌}
use Rattle.ds_paths.specs.declared.graph.Edge.{Edge}
use Rattle.ds_explore_state.specs.declared.choices.Choice.{Choice}
use Rattle.ds_explore_state.proofs.choices.lack.Given as goal

abbrev pub invariant-loop-number : goal.invariant-loop-number
invariant-loop-number l = (k : ℕ) (d : Edge Choice) → k < l.number → (get_or l.edges k d).by ≢ l.choice
