use Rattle.std.proofs.Common.{ℕ, ◌≡◌, ◌<◌, ◌∙◌, ◌++◌, List, map, sym, ap, subst}
use Rattle.std.specs.Prelude.{true}
use Rattle.std.specs.Mem.Slots.{slots_items}
use Rattle.atomic_table.specs.Table.{Me}
use Rattle.pm_base.specs.Structures.{In}
use Rattle.pm_base.proofs.Lists.{in_left}
use Rattle.pm_board.specs.Rule.{IsRested}
use Rattle.pm_board.specs.Views.{past_of}
use Rattle.pm_board.specs.declared.board.Seated.{Seated}
use Rattle.pm_board.specs.declared.board.View.{View}
use Rattle.pq.specs.Queue.{queue}
use Rattle.pq.specs.declared.calls.Doing.{Doing}
use Rattle.pq.specs.declared.calls.Response.{Response}
use Rattle.pq_seats.specs.Places.{past_in, sole}
use Rattle.pq_seats.specs.Resting.{remembered}
use Rattle.pq_seats.specs.declared.pass.Pass.{Pass}
use Rattle.pq_seats.proofs.resting.RestingQueue.reopen.Goals as goal

pub of-requires-in-Err : goal.of-requires-in-Err
of-requires-in-Err c =
    let back = c.in-Err.ensures.back in
    let was = c.into_board.result in
    let now = c.in-Err.board in
    let few = subst (λ b. b.key < 16384) (sym c.into_board.ensures.0) c.args.self.few in (
      subst (λ (k : ℕ). k < 16384) (sym back.1) few,
      subst (λ (k : ℕ). IsRested queue k (slots_items now.table.words) (past_of now.before)) (sym back.1)
          (subst (λ t. IsRested queue was.key (slots_items t.words) (past_of now.before)) (sym back.0)
          (subst (λ b. IsRested queue was.key (slots_items was.table.words) (past_of b)) (sym back.2) c.into_board.ensures.1)),
    )

pub returns-in-Ok-of-clause-fresh : goal.returns-in-Ok-of-clause-fresh
returns-in-Ok-of-clause-fresh c = c.in-Ok-of.ensures.fresh true (λ k d low. (c.dealt-passes.ensures.fit k d low).1)

pub returns-in-Err-of-clause-back : goal.returns-in-Err-of-clause-back
returns-in-Err-of-clause-back c =
    let back = c.in-Err-of.ensures.back in
    let self = c.into_board.ensures.0 in
    let seats = map (λ (p : Pass). sole p.place) c.in-Err-of.passes.items in
    let opened = c.in-Ok-reopen.ensures.place.1.1 in
    let kept : past_in c.in-Err-of.past.place ≡ past_of c.args.self.board.before = ap (λ p. past_in p.place) back.1 ∙ (c.dealt-passes.ensures.rest.1 ∙ (ap (λ (m : Me ℕ (View Doing Response)). m.0.past) opened ∙ ap (λ b. past_of b.before) self)) in
    let all : remembered c.of-in-Err-of.result ≡ past_of c.args.self.board.before ++ seats =
    ap (λ b. past_of b.before) c.of-in-Err-of.ensures ∙ (c.close.ensures.past ∙ (ap (λ (m : Me ℕ (View Doing Response)). m.0.past ++ m.0.entries) c.joined-place.ensures.all ∙ ap (λ (l : List (Seated Doing Response)). l ++ seats) kept)) in record {
      key = ap (λ b. b.key) c.of-in-Err-of.ensures ∙ (c.close.ensures.key ∙ (ap (λ b. b.key) back.0 ∙ (c.in-Ok-reopen.ensures.key ∙ ap (λ b. b.key) self)));
      before = λ e inside. subst (λ (l : List (Seated Doing Response)). In l e) (sym all) (in_left (remembered c.args.self) seats e inside);
    }
