use Rattle.ds_eval.proofs.Tallies.{some_told}
use Rattle.ds_eval.proofs.tally.Tally.some_true.Goals as goal

pub returns-in-None : goal.returns-in-None
returns-in-None c = λ vs t. some_told vs c.args.self c.truth.result c.in-None.is c.truth.ensures t
