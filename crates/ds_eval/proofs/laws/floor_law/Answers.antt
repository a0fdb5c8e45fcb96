use Rattle.ds_eval.proofs.Meant.{floor_is}
use Rattle.ds_eval.proofs.laws.floor_law.Goals as goal

pub returns : goal.returns
returns c = floor_is
