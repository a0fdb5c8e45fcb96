use Rattle.std.proofs.Common.{◌≡◌, ◌<◌, ◌++◌, List, arith, sym, subst, ap}
use Rattle.std.specs.Mem.Slots.{slots_items}
use Rattle.pm_board.specs.declared.board.View.{View}
use Rattle.pm_board.specs.declared.board.Seated.{Seated}
use Rattle.pm_board.specs.Rule.{AreTrue, Closes}
use Rattle.pm_board.specs.Starts.{start_of}
use Rattle.pm_board.proofs.Dealt.{remembers, ended}
use Rattle.pm_board.proofs.Having.{closes_runs}
use Rattle.pm_board.proofs.Sides.{positive}
use Rattle.pm_board.proofs.board.Board.close.Goals as goal

pub split_seat-before-requires : goal.split_seat-before-requires
split_seat-before-requires g c =
    let some : 0 < c.args.self.table.shared.table_id.words = (let a = c.args.self.sized.0 in let n = positive (g.P.Structured.structure.apart c.args.self.key) _ c.args.self.some.0 in omega arith) in
    (c.requires.0, some, remembers g.P.Structured.structure c.args.self.table.shared.key.own (start_of c.args.self.table.shared.key) _ _)

stands : goal.returns-clause-stand
stands g c =
    let e = ended g.P.Structured.structure c.args.self.table.shared.key.own (start_of c.args.self.table.shared.key) _ _ _ _ c.close_with.ensures.values.2 in
    let view : c.split_seat-before.new.seat.me.0 ≡ c.args.place.me.0 = ap (λ m. m.0) c.split_seat-before.ensures.2 in
    let one = subst (λ (z : View g.row.P-Doing.Denot g.row.P-Response.Denot). Closes g.P.Structured.structure c.args.self.table.shared.key.own (start_of c.args.self.table.shared.key) (slots_items c.close_with.result.words) z.entries (z.past ++ z.entries)) view e in
    subst (λ k. Closes g.P.Structured.structure k (start_of c.args.self.table.shared.key) (slots_items c.close_with.result.words) c.args.place.me.0.entries (c.args.place.me.0.past ++ c.args.place.me.0.entries)) c.args.self.sized.1 one

pub returns-clause-stand : goal.returns-clause-stand
returns-clause-stand g c = stands g c

pub returns-clause-run : goal.returns-clause-run
returns-clause-run g c = closes_runs g.P.Structured.structure c.args.self.key c.law.ensures _ _ _ _ (stands g c)

pub returns-clause-rests : goal.returns-clause-rests
returns-clause-rests g c =
    let s = stands g c in
    let view : c.split_seat-before.new.seat.me.0 ≡ c.args.place.me.0 = ap (λ m. m.0) c.split_seat-before.ensures.2 in
    (s.witness, s.rests, subst (λ (es : List (Seated g.row.P-Doing.Denot g.row.P-Response.Denot)). AreTrue g.P.Structured.structure c.args.self.key s.witness es) (sym (ap (λ m. m.0.past) c.split_seat-before.ensures.4)) s.responses)
