use Rattle.std.proofs.Common.{ℕ, ◌≤◌}
use Rattle.std.specs.Prelude.{length}
use Rattle.ds_server.specs.WorldDesks.{IsSeated}
use Rattle.ds_server.proofs.world.last_free.Given as goal

abbrev pub invariant-processes : goal.invariant-processes
invariant-processes l = record {
  within : l.process ≤ length l.world.situations;
  none : (q : ℕ) → l.process ≤ q → IsSeated l.world q → ⊥;
}

abbrev pub decreases-processes : goal.decreases-processes
decreases-processes l = l.process
