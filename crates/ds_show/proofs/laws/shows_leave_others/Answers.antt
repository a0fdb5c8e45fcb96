use Rattle.ds_show.proofs.ShowMiddles.{step_leaves, begin_leaves}
use Rattle.ds_show.proofs.laws.shows_leave_others.Goals as goal

pub returns : goal.returns
returns c = record { steps = step_leaves; begins = begin_leaves }
