use Rattle.std.proofs.Common.{◌<◌, arith}
use Rattle.pm_board.specs.Starts.{start_of}
use Rattle.pm_board.proofs.Dealt.{remembers}
use Rattle.pm_board.proofs.Sides.{positive}
use Rattle.pm_board.proofs.board.Board.note.Goals as goal

pub split_seat-requires : goal.split_seat-requires
split_seat-requires g c =
    let some : 0 < c.args.self.now.table.shared.table_id.words = (let a = c.args.self.now.sized.0 in let n = positive (g.P.Structured.structure.apart c.args.self.now.key) _ c.args.self.now.some.0 in omega arith) in
    (c.requires.0, some, remembers g.P.Structured.structure c.args.self.now.table.shared.key.own (start_of c.args.self.now.table.shared.key) _ _)
