use Rattle.std.proofs.Common.{◌≡◌, ◌+◌, ◌<◌, ◌∙◌, ℕ, List, ap, get_or, arith}
use Rattle.std.specs.Mem.Slots.{slots_items}
use Rattle.pm_board.specs.Table.{cached_at, persisted_at}
use Rattle.pm_board.proofs.Sides.{before, few}
use Rattle.pm_board.proofs.closed.ClosedBoard.cached.Goals as goal

pub cached_at-requires : goal.cached_at-requires
cached_at-requires g c = let f = few c.apart.result c.args.word in let low = c.requires in let small = c.args.self.now.some.1 in omega arith

pub side-requires : goal.side-requires
side-requires g c =
    let key = c.args.self.now.key in
    let at : c.cached_at.result ≡ cached_at (g.P.Structured.structure.apart key) c.args.word = c.cached_at.ensures ∙ ap (λ (a : ℕ). cached_at a c.args.word) c.apart.ensures in
    let there = before (g.P.Structured.structure.apart key) c.args.word (g.P.Structured.structure.words key) c.requires in
    omega arith
