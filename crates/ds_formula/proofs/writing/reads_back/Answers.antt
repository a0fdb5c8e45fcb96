use Rattle.ds_formula.proofs.ReadsBack as laws
use Rattle.ds_formula.proofs.writing.reads_back.Goals as goal

pub returns : goal.returns
returns c = λ shape text content r. laws.reads_back shape text content r.reads
