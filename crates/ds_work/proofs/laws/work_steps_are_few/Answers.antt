use Rattle.ds_work.proofs.Ranks.{each_falls}
use Rattle.ds_work.proofs.laws.work_steps_are_few.Goals as goal

pub returns-clause-falls : goal.returns-clause-falls
returns-clause-falls c = each_falls
