use Rattle.ds_eval.proofs.Longer.{content_longer}
use Rattle.ds_eval.proofs.laws.values_stay.Goals as goal

pub returns : goal.returns
returns c = content_longer
