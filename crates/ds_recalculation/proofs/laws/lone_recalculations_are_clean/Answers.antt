use Rattle.ds_recalculation.proofs.Recalculated.{recalculates_clean}
use Rattle.ds_recalculation.proofs.laws.lone_recalculations_are_clean.Goals as goal

pub returns : goal.returns
returns c = recalculates_clean
