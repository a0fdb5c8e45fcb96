use Rattle.ds_show.proofs.ShowMiddles.{middles_begin, middles_step}
use Rattle.ds_show.proofs.laws.middles_go_on.Goals as goal

pub returns : goal.returns
returns c = record { begins = middles_begin; steps = middles_step }
