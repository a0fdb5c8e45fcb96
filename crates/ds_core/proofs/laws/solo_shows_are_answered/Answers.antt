use Rattle.ds_core.proofs.AloneShow.{solo_settled}
use Rattle.ds_core.proofs.laws.solo_shows_are_answered.Goals as goal

pub returns : goal.returns
returns c = solo_settled
