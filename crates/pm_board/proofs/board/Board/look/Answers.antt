use Rattle.std.proofs.Common.{◌≡◌, ◌<◌, ℕ, [], sym, subst, arith}
use Rattle.atomic_table.specs.Table.{Me, Allows}
use Rattle.pm_board.specs.declared.board.View.{View}
use Rattle.pm_board.specs.Looks.{Looks}
use Rattle.pm_board.specs.Rule.{Ruled}
use Rattle.pm_board.specs.Starts.{start_of}
use Rattle.pm_board.proofs.Looking.{looks}
use Rattle.pm_board.proofs.Sides.{positive}
use Rattle.pm_board.proofs.board.Board.look.Goals as goal

pub load-found-requires : goal.load-found-requires
load-found-requires g c =
    let some : 0 < c.args.self.now.table.shared.table_id.words = (let a = c.args.self.now.sized.0 in let n = positive (g.P.Structured.structure.apart c.args.self.now.key) _ c.args.self.now.some.0 in omega arith) in
    let key = c.args.self.now.table.shared.key in
    let me = c.args.place.now.me in (
      c.requires.0,
      some,
      subst (λ (m : Me ℕ (View g.row.P-Doing.Denot g.row.P-Response.Denot)). Allows (Ruled g.P.Structured.structure key.own {X = ℕ} (start_of key)) c.args.self.now.table.shared.table_id.slots c.args.place.now.id m 0 (λ n. n) (λ n m'. (m'.1 ≡ m.1) × Looks m.0 [] m'.0))
          (λ i. (me.0, sym c.requires.1 i)) (looks g.P.Structured.structure key.own (start_of key) _ _ me.0 [] (λ e none. absurd none)),
    )
