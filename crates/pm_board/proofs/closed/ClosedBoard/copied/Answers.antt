use Rattle.std.proofs.Common.{arith}
use Rattle.pm_board.proofs.Sides.{few}
use Rattle.pm_board.proofs.closed.ClosedBoard.copied.Goals as goal

pub cached_at-count-requires : goal.cached_at-count-requires
cached_at-count-requires g c = let f = few c.apart.result c.words.result in let e = c.words.ensures in let small = c.args.self.now.some.1 in omega arith
