use Rattle.std.proofs.Common.{ℕ, ◌≡◌, ◌++◌, sym, ap, subst, ◌∙◌, All}
use Rattle.atomic_table.specs.Table.{Me}
use Rattle.pm_board.specs.Views.{past_of}
use Rattle.pm_board.specs.declared.board.View.{View}
use Rattle.pq.specs.declared.calls.Doing.{Doing}
use Rattle.pq.specs.declared.calls.Response.{Response}
use Rattle.pq_seats.specs.Resting.{words_in}
use Rattle.std.specs.Arc.{arc_value}
use Rattle.std.specs.List.{range_with_len}
use Rattle.std.specs.Mem.Slots.{slots_items}
use Rattle.pm_board.specs.Rule.{Closes, HasRun}
use Rattle.pm_board.specs.Starts.{start_of}
use Rattle.pq.specs.Queue.{queue}
use Rattle.pq_seats.specs.Known.{IsOf}
use Rattle.pq_seats.specs.Places.{past_in}
use Rattle.pq_seats.specs.Queues.{seated_by}
use Rattle.pq_seats.proofs.Looking.{order_looked, own_looked}
use Rattle.pq_seats.proofs.queue.OpenQueue.close.Goals as goal

pub invariant_of-self : goal.invariant_of-self
invariant_of-self c =
    let q = c.args.self in
    record {
      fits = q.fits;
      of = q.of;
      own = own_looked (arc_value q.board).table.shared.table_id q.processes _ _ c.look.ensures.looked q.own;
      order = order_looked _ _ c.look.ensures.looked ∙ q.order;
    }

pub invariant_of-self-2 : goal.invariant_of-self-2
invariant_of-self-2 c =
    let q = c.args.self in
    record {
      fits = q.fits;
      of = q.of;
      own = own_looked (arc_value q.board).table.shared.table_id q.processes _ _ c.look.ensures.looked q.own;
      order = order_looked _ _ c.look.ensures.looked ∙ q.order;
    }

pub returns-in-Ok-try_unwrap-clause-ok : goal.returns-in-Ok-try_unwrap-clause-ok
returns-in-Ok-try_unwrap-clause-ok c =
    let q = c.args.self in
    let board = c.in-Ok-try_unwrap.board in
    let is : board ≡ arc_value q.board = c.in-Ok-try_unwrap.ensures.ok in
    let passes = c.gathered-passes.result.items in
    let h = c.close.ensures in
    let of = c.of.ensures in
    let all = c.joined-place.ensures.all in
    let known = past_in q.past.place ++ seated_by passes in
    let words = slots_items c.close.result.table.words in
    record {
      passes = passes;
      each = c.gathered-passes.ensures.order ∙ (order_looked _ _ c.look.ensures.looked ∙ (q.order ∙ ap (range_with_len 0) q.fits.0));
      of = subst (λ b. All (λ p. IsOf b.table.shared.table_id b.key p) passes) is c.gathered-passes.ensures.fit;
      key = ap (λ b. b.key) of ∙ (h.key ∙ ap (λ b. b.key) is);
      before = ap (λ b. past_of b.before) of ∙ (h.past ∙ ap (λ (m : Me ℕ (View Doing Response)). m.0.past ++ m.0.entries) all);
      run = subst (λ b. HasRun queue b.key (words_in c.of.result) known) is (subst (λ w. HasRun queue board.key (slots_items w.table.words) known) (sym of)
          (subst (λ (m : Me ℕ (View Doing Response)). HasRun queue board.key words (m.0.past ++ m.0.entries)) all h.run));
      stand = subst (λ b. Closes queue b.key (start_of b.table.shared.key) (words_in c.of.result) (seated_by passes) known) is
          (subst (λ w. Closes queue board.key (start_of board.table.shared.key) (slots_items w.table.words) (seated_by passes) known) (sym of)
          (subst (λ (m : Me ℕ (View Doing Response)). Closes queue board.key (start_of board.table.shared.key) words m.0.entries (m.0.past ++ m.0.entries)) all h.stand));
    }
