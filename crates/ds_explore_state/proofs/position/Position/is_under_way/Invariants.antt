use Rattle.std.proofs.Common.{ℕ, ◌<◌}
use Rattle.ds_explore_state.specs.Orders.{IsBusy}
use Rattle.ds_explore_state.proofs.position.Position.is_under_way.Given as goal

abbrev pub invariant-loop-process : goal.invariant-loop-process
invariant-loop-process l = (p : ℕ) → p < l.process → IsBusy l.self p → ⊥
