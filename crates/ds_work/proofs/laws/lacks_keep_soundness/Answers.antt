use Rattle.ds_work.proofs.EachWork as laws
use Rattle.ds_work.proofs.laws.lacks_keep_soundness.Goals as goal

pub returns : goal.returns
returns c = laws.lacks_keep
