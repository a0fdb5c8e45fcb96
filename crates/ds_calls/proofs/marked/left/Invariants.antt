use Rattle.std.proofs.Common.{◌≡◌, ◌≤◌}
use Rattle.ds_state.specs.Value.{world_of}
use Rattle.ds_calls.specs.Marked.{left_below}
use Rattle.ds_calls.proofs.marked.left.Given as goal

abbrev pub invariant-loop-cell : goal.invariant-loop-cell
invariant-loop-cell l = record {
  few : l.left ≤ l.cell;
  is : l.left ≡ left_below (world_of l.world) l.cell;
}
