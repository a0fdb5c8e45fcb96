use Rattle.ds_show.proofs.ShowLaws.{begins}
use Rattle.ds_show.proofs.laws.begins_keep_soundness.Goals as goal

pub returns : goal.returns
returns c = λ p next old new sound real b. begins p next old new sound real b
