use Rattle.ds_formula.specs.Functions.{scope_with}
use Rattle.ds_formula.proofs.Known.{content_calls}
use Rattle.ds_formula.proofs.laws.contents_call_known_functions.Goals as goal

pub returns : goal.returns
returns c = λ functions shape text content h. content_calls (scope_with functions shape) text content h.reads
