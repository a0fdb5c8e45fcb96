use Rattle.ds_formula.proofs.Exists.{answered}
use Rattle.ds_formula.proofs.Whole.{only_content, only_fault, only_one}
use Rattle.ds_formula.proofs.reading.one_answer.Goals as goal

pub returns : goal.returns
returns c = λ shape text. record { some = answered shape text; content = only_content shape text; fault = only_fault shape text; never_both = only_one shape text }
