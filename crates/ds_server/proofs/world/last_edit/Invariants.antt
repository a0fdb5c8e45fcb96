use Rattle.std.proofs.Common.{◌≡◌, length}
use Rattle.ds_state.specs.World.{of_cell}
use Rattle.ds_server.proofs.world.last_edit.Given as goal

abbrev pub invariant-edits : goal.invariant-edits
invariant-edits l = of_cell l.cell l.edits ≡ of_cell l.cell l.rest

abbrev pub decreases-edits : goal.decreases-edits
decreases-edits l = length l.rest
