use Rattle.ds_core.proofs.NotDone.{told_not_done_never}
use Rattle.ds_core.proofs.laws.edits_reported_not_done_stay_out.Goals as goal

pub returns : goal.returns
returns c = told_not_done_never
