use Rattle.ds_eval.proofs.Showable.{local_shown}
use Rattle.ds_eval.proofs.laws.shown_law.Goals as goal

pub returns : goal.returns
returns c = local_shown
