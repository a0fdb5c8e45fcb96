use Rattle.ds_formula.specs.Functions.{first_functions, later_functions}
use Rattle.ds_formula.proofs.Longer.{content_longer, fault_longer}
use Rattle.ds_formula.proofs.laws.first_texts_stay.Goals as goal

pub returns-clause-contents : goal.returns-clause-contents
returns-clause-contents c = content_longer first_functions later_functions

pub returns-clause-faults : goal.returns-clause-faults
returns-clause-faults c = fault_longer first_functions later_functions
