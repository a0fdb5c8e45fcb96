use Rattle.ds_eval.proofs.FixedPoint as laws
use Rattle.ds_eval.proofs.laws.fixed_point.Goals as goal

pub returns : goal.returns
returns c = λ shape sheet entries shown l s. laws.fixed_point shape sheet entries l shown s
