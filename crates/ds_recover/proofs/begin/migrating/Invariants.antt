use Rattle.std.proofs.Common.{ℕ, ◌≤◌, ◌<◌, ◌-◌, length}
use Rattle.std.specs.Prelude.{slice_index_or}
use Rattle.ds_state.specs.LayoutsFit.{IsMoving}
use Rattle.ds_state.specs.Value.{first_rest}
use Rattle.ds_state.specs.declared.situation.Situation.TheVariants.{Idle}
use Rattle.ds_recover.proofs.begin.migrating.Given as goal

abbrev pub invariant-loop-process : goal.invariant-loop-process
invariant-loop-process l = (l.process ≤ length l.fn.situations) × ((q : ℕ) → q < l.process → IsMoving (slice_index_or l.fn.situations q (Idle first_rest)) → ⊥)

abbrev pub decreases-loop-process : goal.decreases-loop-process
decreases-loop-process l = length l.fn.situations - l.process
