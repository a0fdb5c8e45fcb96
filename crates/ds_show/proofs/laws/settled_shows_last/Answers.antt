use Rattle.ds_show.proofs.ShowMiddles.{show_settled, show_stays}
use Rattle.ds_show.proofs.laws.settled_shows_last.Goals as goal

pub returns : goal.returns
returns c = record { settled = show_settled; stays = show_stays }
