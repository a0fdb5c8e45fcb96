use Rattle.std.proofs.Common.{◌-◌, ◌≡◌, ◌≤◌}
use Rattle.ds_state.specs.Value.{world_of}
use Rattle.ds_calls.specs.Marked.{marked_from}
use Rattle.ds_calls.proofs.marked.next_marked.Given as goal

abbrev pub invariant-loop-cell : goal.invariant-loop-cell
invariant-loop-cell l = record {
  above : l.from ≤ l.cell;
  below : l.cell ≤ l.count;
  same : marked_from (world_of l.world) (l.count - l.from) l.from ≡ marked_from (world_of l.world) (l.count - l.cell) l.cell;
}

abbrev pub decreases-loop-cell : goal.decreases-loop-cell
decreases-loop-cell l = l.count - l.cell
