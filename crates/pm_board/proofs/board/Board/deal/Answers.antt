use Rattle.std.proofs.Common.{[], refl, arith, ◌∙◌, ap}
use Rattle.std.specs.Prelude.{Some}
use Rattle.pm_board.specs.Views.{deeds_at, first_now, newcomer}
use Rattle.pm_board.proofs.Dealt.{cut, may_split}
use Rattle.pm_board.proofs.Sides.{positive}
use Rattle.pm_board.proofs.board.Board.deal.Goals as goal

pub split_seat-requires : goal.split_seat-requires
split_seat-requires g c = (
  c.requires.table,
  (let a = c.args.self.now.sized.0 in let n = positive (g.P.Structured.structure.apart c.args.self.now.key) _ c.args.self.now.some.0 in omega arith),
  rw c.args.self.now.sized.1 (may_split g.P.Structured.structure c.args.self.now.key (first_now g.P.Structured.structure c.args.stopped) (Some c.requires.rest.seen) _ _ c.args.process _ _ c.requires.low c.requires.rest.rest),
)

pub returns-clause-rest : goal.returns-clause-rest
returns-clause-rest g c =
    let t = cut g.P.Structured.structure c.args.self.now.key (first_now g.P.Structured.structure c.args.stopped) (Some c.requires.rest.seen) c.args.process _ _ _ c.requires.low c.requires.rest.rest in
    record { seen = c.requires.rest.seen; rest = rw c.split_seat.ensures.2 t.left; empty = ap (λ m. m.1) c.split_seat.ensures.2 ∙ c.requires.rest.empty }

pub returns-clause-new : goal.returns-clause-new
returns-clause-new g c =
    let s = g.P.Structured.structure in
    let t = cut s c.args.self.now.key (first_now s c.args.stopped) (Some c.requires.rest.seen) c.args.process _ _ _ c.requires.low c.requires.rest.rest in
    ap (λ m. (deeds_at m).done) (c.split_seat.ensures.4 ∙ (λ i. (t.right i, [])))

pub returns-clause-sits : goal.returns-clause-sits
returns-clause-sits g c =
    let s = g.P.Structured.structure in
    let t = cut s c.args.self.now.key (first_now s c.args.stopped) (Some c.requires.rest.seen) c.args.process _ _ _ c.requires.low c.requires.rest.rest in
    record {
      runs = record { seat = newcomer (first_now s c.args.stopped) (Some c.requires.rest.seen) c.args.process; at = c.split_seat.ensures.4 ∙ (λ i. (t.right i, [])); own = refl; seen = c.requires.rest.seen; looked = refl };
      does = refl;
    }

pub returns-clause-others : goal.returns-clause-others
returns-clause-others g c = λ seen rest.
    let t = cut g.P.Structured.structure c.args.self.now.key (first_now g.P.Structured.structure c.args.stopped) seen c.args.process _ _ _ c.requires.low rest in
    rw c.split_seat.ensures.2 t.left

pub returns-clause-alone : goal.returns-clause-alone
returns-clause-alone g c = λ seen rest.
    let t = cut g.P.Structured.structure c.args.self.now.key (first_now g.P.Structured.structure c.args.stopped) seen c.args.process _ _ _ c.requires.low rest in
    c.split_seat.ensures.4 ∙ (λ i. (t.right i, []))
