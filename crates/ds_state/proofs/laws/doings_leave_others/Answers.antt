use Rattle.ds_state.proofs.Leaves.{stop_leaves, leaves_on}
use Rattle.ds_state.proofs.laws.doings_leave_others.Goals as goal

pub returns : goal.returns
returns c = record { stops = stop_leaves; on = leaves_on }
