use Rattle.ds_script.proofs.Settled.{lone_says_clean}
use Rattle.ds_script.proofs.settle.lone_settles_are_clean.Goals as goal

pub returns : goal.returns
returns c = lone_says_clean
