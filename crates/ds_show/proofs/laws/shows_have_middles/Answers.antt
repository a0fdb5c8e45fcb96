use Rattle.ds_show.proofs.ShowMiddles.{middle_begins, middle_steps}
use Rattle.ds_show.proofs.laws.shows_have_middles.Goals as goal

pub returns : goal.returns
returns c = record { begin = middle_begins; step = middle_steps }
