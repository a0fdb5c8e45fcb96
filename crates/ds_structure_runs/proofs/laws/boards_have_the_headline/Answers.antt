use Rattle.ds_structure_runs.proofs.Boards.{boards_have_the_headline}
use Rattle.ds_structure_runs.proofs.laws.boards_have_the_headline.Goals as goal

pub returns : goal.returns
returns c = boards_have_the_headline c.args.key.now c.runs_have_the_headline.ensures
