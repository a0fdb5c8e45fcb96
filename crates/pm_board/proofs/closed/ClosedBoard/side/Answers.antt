use Rattle.std.specs.Mem.Slots.{slots_items}
use Rattle.pm_board.proofs.Losing.{elem_index}
use Rattle.pm_board.proofs.closed.ClosedBoard.side.Goals as goal

pub returns : goal.returns
returns g c = elem_index (slots_items c.args.self.now.table.words) c.args.number c.word.result c.word.ensures
