use Rattle.pm_board.proofs.Having.{open_runs}
use Rattle.pm_board.proofs.laws.open_boards_have_runs.Goals as goal

pub returns : goal.returns
returns g c = open_runs g.P.Structured.structure c.args.key.now c.law.ensures
