use Rattle.ds_script.proofs.Recalculated.{script_recalculates_clean}
use Rattle.ds_script.proofs.script.lone_recalculations_answer_clean.Goals as goal

pub returns : goal.returns
returns c = script_recalculates_clean
