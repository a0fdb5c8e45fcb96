use Rattle.std.proofs.Common.{◌≡◌, take}
use Rattle.std.specs.Mem.Slots.{slots_items}
use Rattle.pm_board.proofs.closed.ClosedBoard.copied.Given as goal

abbrev pub invariant-loop-number : goal.invariant-loop-number
invariant-loop-number g l = l.words.items ≡ take l.number (slots_items l.self.table.words)
