use Rattle.ds_show.proofs.ShowMiddles.{middle_says, middle_settles}
use Rattle.ds_show.proofs.laws.middles_are_true.Goals as goal

pub returns : goal.returns
returns c = record { says = middle_says; settles = middle_settles }
