use Rattle.ds_work.proofs.EachWork as laws
use Rattle.ds_work.proofs.laws.begins_of_work_keep_soundness.Goals as goal

pub returns : goal.returns
returns c = laws.begins_keep
