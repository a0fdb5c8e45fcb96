use Rattle.ds_formula.proofs.Formed.{read_inside}
use Rattle.ds_formula.proofs.reading.read_is_inside.Goals as goal

pub returns : goal.returns
returns c = λ shape text content cell r m. read_inside shape text content cell r.reads m
