use Rattle.ds_recover.proofs.RecoveryLaws.{begins}
use Rattle.ds_recover.proofs.laws.begins_keep_soundness.Goals as goal

pub returns : goal.returns
returns c = λ p old new sound real b. begins p old new sound real b
