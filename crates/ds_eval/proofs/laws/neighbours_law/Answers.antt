use Rattle.ds_eval.proofs.Neighbours as laws
use Rattle.ds_eval.proofs.laws.neighbours_law.Goals as goal

pub returns : goal.returns
returns c = λ shape content old new h. laws.local_on shape content old new h
