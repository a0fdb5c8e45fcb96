use Rattle.std.proofs.Common.{◌≡◌, ◌+◌, ◌<◌, ◌≤◌, ℕ, List, length, get_or}
use Rattle.std.specs.Prelude.{Bool, false}
use Rattle.std.specs.Mem.Slots.{slots_items}
use Rattle.pm_board.proofs.Losing.{Left}
use Rattle.pm_board.proofs.closed.ClosedBoard.crash_with.Given as goal

abbrev pub invariant-loop-number : goal.invariant-loop-number
invariant-loop-number g l = (l.self.key ≡ l.fn.self.key) × (l.self.before ≡ l.fn.self.before) × (l.number-end ≡ g.P.Structured.structure.words l.fn.self.key) × Left (g.P.Structured.structure.apart l.fn.self.key) (λ n. get_or l.choice n false) (slots_items l.fn.self.table.words) (slots_items l.self.table.words) l.number
