use Rattle.ds_formula.proofs.Longer.{fault_longer}
use Rattle.ds_formula.proofs.laws.faults_stay.Goals as goal

pub returns : goal.returns
returns c = fault_longer
