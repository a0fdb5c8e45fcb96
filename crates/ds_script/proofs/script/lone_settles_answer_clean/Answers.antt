use Rattle.ds_script.proofs.Settled.{script_says_clean}
use Rattle.ds_script.proofs.script.lone_settles_answer_clean.Goals as goal

pub returns : goal.returns
returns c = script_says_clean
