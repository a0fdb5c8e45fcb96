use Rattle.ds_eval.proofs.Walks as laws
use Rattle.ds_eval.proofs.laws.walk_law.Goals as goal

pub returns : goal.returns
returns c = laws.walk_law
