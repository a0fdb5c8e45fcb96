use Rattle.ds_formula.proofs.Longer.{content_longer}
use Rattle.ds_formula.proofs.laws.contents_stay.Goals as goal

pub returns : goal.returns
returns c = content_longer
