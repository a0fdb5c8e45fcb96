use Rattle.std.proofs.Common.{◌≡◌, ◌+◌, ◌++◌, [], ◌∷◌, ◌∙◌, ap, sym, subst, map, length, take, arith, ℕ, List, All}
use Rattle.std.proofs.lemmas.List.{length_push}
use Rattle.std.proofs.lemmas.List.Elements.{All-push, All-same}
use Rattle.std.specs.Vec.Iter.{into_iter_items}
use Rattle.rtrb.specs.Ring.{received}
use Rattle.pq_seats.specs.Known.{IsOf}
use Rattle.pq_seats.specs.declared.pass.Pass.{Pass}
use Rattle.pq_seats.specs.Homes.{IsFull, in_home}
use Rattle.pq_seats.specs.declared.ring.Home.{Home}
use Rattle.pq_seats.proofs.Moving.{moved, head_all, tail_all, still_of, still_process}
use Rattle.pq_seats.proofs.housing.gathered.Goals as goal

pub loop-home-preserved : goal.loop-home-preserved
loop-home-preserved c =
    let i = c.loop-home.invariant in
    let passes = c.loop-home.passes.items in
    let home = c.in-Some.home in
    let pass = c.pop_known.result in
    let step = c.in-Some.ensures.steps in
    let more = c.push_reserved.ensures.items in
    let table = c.args.board.now.table.shared.table_id in
    let key = c.args.board.now.key in
    let Own : Home → Type 0 = λ h. All (λ p. IsOf table key p) (received h.end) in
    let full = subst (All IsFull) step.0 i.full in
    let own = subst (All Own) step.0 i.own in
    let same = c.pop_known.ensures.allowed in
    let long : length c.push_reserved.new.self.items ≡ length passes + 1 = ap length more ∙ length_push passes pass in
    let F : Pass → ℕ = λ p. p.process in
    let G : Home → ℕ = λ h. h.process in
    let S : Pass → List Pass = λ p. p ∷ [] in
    record {
      room = omega (arith, long, step.1, i.room, c.push_reserved.ensures.capacity);
      full = tail_all IsFull home _ full;
      own = tail_all Own home _ own;
      fit = All-same (λ p. IsOf table key p) _ _ more (All-push (λ p. IsOf table key p) passes pass i.fit (still_of table key (received home.end) pass home.some same (head_all Own home _ own)));
      order = ap (λ l. map F l ++ map G (into_iter_items c.next.new.self)) more ∙ moved F G passes pass home _ _ (ap (λ l. map F passes ++ map G l) (sym step.0) ∙ i.order) (still_process home.process (received home.end) pass home.some same home.own);
      known = ap (λ l. map S l ++ map in_home (into_iter_items c.next.new.self)) more ∙ moved S in_home passes pass home _ _ (ap (λ l. map S passes ++ map in_home l) (sym step.0) ∙ i.known) (sym (ap (take 1) c.pop_known.ensures.received.1));
    }
