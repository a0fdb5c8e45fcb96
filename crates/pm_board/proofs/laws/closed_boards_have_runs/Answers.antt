use Rattle.pm_board.proofs.Having.{closed_runs}
use Rattle.pm_board.proofs.laws.closed_boards_have_runs.Goals as goal

pub returns : goal.returns
returns g c = closed_runs g.P.Structured.structure c.args.key.now c.law.ensures
