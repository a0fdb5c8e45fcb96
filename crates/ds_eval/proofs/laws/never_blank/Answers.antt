use Rattle.ds_eval.proofs.Results as laws
use Rattle.ds_eval.proofs.laws.never_blank.Goals as goal

pub returns : goal.returns
returns c = laws.never_blank
