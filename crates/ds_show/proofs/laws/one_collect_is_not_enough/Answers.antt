use Rattle.ds_show.proofs.OneCollect.{mixed_of_none}
use Rattle.ds_show.proofs.laws.one_collect_is_not_enough.Goals as goal

pub returns : goal.returns
returns c = mixed_of_none
