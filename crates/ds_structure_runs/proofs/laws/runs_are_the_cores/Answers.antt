use Rattle.ds_structure_runs.proofs.Cores.{are_the_cores}
use Rattle.ds_structure_runs.proofs.laws.runs_are_the_cores.Goals as goal

pub returns : goal.returns
returns c = are_the_cores c.args.key.now c.sheets_are_a_structure.ensures
