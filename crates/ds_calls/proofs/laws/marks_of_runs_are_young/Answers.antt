use Rattle.ds_calls.proofs.Ages.{young_marks}
use Rattle.ds_calls.proofs.laws.marks_of_runs_are_young.Goals as goal

pub returns : goal.returns
returns c = young_marks
