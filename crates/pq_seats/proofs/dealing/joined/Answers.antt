use Rattle.std.proofs.Common.{◌∙◌, ◌++◌, ap, sym, subst, map, All, ℕ}
use Rattle.std.specs.Vec.Iter.{into_iter_items}
use Rattle.atomic_table.specs.Table.{Me}
use Rattle.pm_board.specs.declared.board.View.{View}
use Rattle.pq.specs.declared.calls.Doing.{Doing}
use Rattle.pq.specs.declared.calls.Response.{Response}
use Rattle.pq_seats.specs.Known.{IsOf}
use Rattle.pq_seats.specs.Places.{sole}
use Rattle.pq_seats.specs.declared.pass.Pass.{Pass}
use Rattle.pq_seats.proofs.Dealt.{one_joined, same_past}
use Rattle.pq_seats.proofs.Moving.{tail_all}
use Rattle.pq_seats.proofs.dealing.joined.Goals as goal

pub loop-pass-preserved : goal.loop-pass-preserved
loop-pass-preserved c =
    let i = c.loop-pass.invariant in
    let joined = c.join.ensures.1 in
    let pass = c.in-Some.pass in
    let rest = into_iter_items c.next.new.self in
    let step = c.in-Some.ensures.steps.0 in
    let Mine = λ (p : Pass). IsOf c.args.board.now.table.shared.table_id c.args.board.now.key p in
    let Sole = λ (p : Pass). sole p.place in
    record {
      table = c.join.ensures.0 ∙ i.table;
      empty = ap (λ m. m.1) joined ∙ i.empty;
      past = ap (λ m. m.0.past) joined ∙ (same_past pass c.loop-pass.seat.me.0 ∙ i.past);
      fit = tail_all Mine pass _ (subst (All Mine) step i.fit);
      entries = ap (λ (m : Me ℕ (View Doing Response)). m.0.entries ++ map Sole rest) joined ∙ (one_joined c.loop-pass.seat.me.0 pass rest ∙ (ap (λ l. c.loop-pass.seat.me.0.entries ++ map Sole l) (sym step) ∙ i.entries));
    }
