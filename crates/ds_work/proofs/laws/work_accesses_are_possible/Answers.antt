use Rattle.ds_work.proofs.WorkNamed.{can_perform}
use Rattle.ds_work.proofs.laws.work_accesses_are_possible.Goals as goal

pub returns : goal.returns
returns c = can_perform
