use Rattle.ds_formula.specs.Functions.{first_functions, later_functions, scope_with}
use Rattle.ds_formula.proofs.Known.{content_calls}
use Rattle.ds_eval.proofs.Longer.{content_longer}
use Rattle.ds_eval.proofs.laws.first_values_stay.Goals as goal

pub returns-clause-called : goal.returns-clause-called
returns-clause-called c = content_longer first_functions later_functions

pub returns-clause-read : goal.returns-clause-read
returns-clause-read c = λ shape text content read h. content_longer first_functions later_functions shape read content (content_calls (scope_with first_functions shape) text content h.reads)
