use Rattle.ds_structure_runs.proofs.Cores.{have_the_headline}
use Rattle.ds_structure_runs.proofs.laws.runs_have_the_headline.Goals as goal

pub returns : goal.returns
returns c = have_the_headline c.args.key.now c.runs_are_the_cores.ensures
