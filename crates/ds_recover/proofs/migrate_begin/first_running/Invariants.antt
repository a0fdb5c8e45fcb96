use Rattle.std.proofs.Common.{ℕ, ◌≡◌, ◌≤◌, ◌<◌, ◌-◌, length}
use Rattle.std.specs.Prelude.{slice_index_or}
use Rattle.ds_state.specs.Value.{first_rest}
use Rattle.ds_state.specs.declared.situation.Situation.TheVariants.{Idle, Stopped}
use Rattle.ds_recover.proofs.migrate_begin.first_running.Given as goal

abbrev pub invariant-loop-process : goal.invariant-loop-process
invariant-loop-process l = (l.process ≤ length l.fn.situations) × ((q : ℕ) → q < l.process → slice_index_or l.fn.situations q (Idle first_rest) ≡ Stopped)

abbrev pub decreases-loop-process : goal.decreases-loop-process
decreases-loop-process l = length l.fn.situations - l.process
