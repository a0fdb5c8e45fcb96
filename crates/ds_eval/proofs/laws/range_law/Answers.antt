use Rattle.ds_eval.proofs.Meant.{cells_are}
use Rattle.ds_eval.proofs.laws.range_law.Goals as goal

pub returns : goal.returns
returns c = cells_are
