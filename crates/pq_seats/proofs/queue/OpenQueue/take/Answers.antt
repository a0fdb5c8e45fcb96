use Rattle.std.proofs.Common.{rules, ◌≡◌, ◌<◌, ◌≤◌, [], ◌∷◌, refl, sym, ap, subst, ◌∙◌, arith, length, get_or, List}
use Rattle.std.proofs.lemmas.List.{get_or-set_other, get_or_default}
use Rattle.std.proofs.lemmas.List.Elements.{All-set}
use Rattle.std.specs.Arc.{arc_value}
use mathlib.Core.List.{IsPrefix}
use Rattle.rtrb.specs.Ring.{known_items}
use Rattle.pq_seats.specs.Known.{IsOf}
use Rattle.pq_seats.specs.declared.pass.Pass.{Pass}
use Rattle.pq_seats.specs.Homes.{HomeLooked, IsHomeOf}
use Rattle.pq_seats.specs.Turns.{IsSame, IsSameAll}
use Rattle.pq_seats.specs.declared.ring.Home.{Home}
use Rattle.pq_seats.specs.declared.queue.OpenQueue.{OpenQueue}
use Rattle.pq_seats.proofs.Looking.{as_many, process_at, as_they_are, one_looked, same_order}
use Rattle.pq_seats.proofs.Moving.{only}
use Rattle.pq_seats.proofs.queue.OpenQueue.take.Goals as goal

many : (q : OpenQueue) → length q.homes.items ≡ (arc_value q.board).key
many q = as_many q.homes.items q.processes q.order ∙ q.fits.0

pub returns-then-process-len-clause-err : goal.returns-then-process-len-clause-err
returns-then-process-len-clause-err c =
    let q = c.args.self.now in
    let all = many q in
    let over : length q.homes.items ≤ c.args.process = search rules in
    (omega (arith, all, over), record { queue_is = refl; past = refl; homes = as_they_are q.homes.items })

pub returns-in_default-clause-err : goal.returns-in_default-clause-err
returns-in_default-clause-err c =
    let q = c.args.self.now in
    let all = many q in
    let below : c.args.process < length q.homes.items = search rules in
    (omega (arith, all, below), record { queue_is = refl; past = refl; homes = as_they_are q.homes.items })

pub returns-in_default-try_clone-clause-err : goal.returns-in_default-try_clone-clause-err
returns-in_default-try_clone-clause-err c =
    let q = c.args.self.now in
    let all = many q in
    let below : c.args.process < length q.homes.items = search rules in
    (omega (arith, all, below), record { queue_is = refl; past = refl; homes = as_they_are q.homes.items })

pub invariant_of-self : goal.invariant_of-self
invariant_of-self c =
    let q = c.args.self.now in
    let ys = q.homes.items in
    let n = c.args.process in
    let y = c.lend.new.self in
    let below : n < length ys = search rules in
    let Own = IsHomeOf (arc_value q.board).table.shared.table_id q.processes in
    let is : c.index_mut.result.now ≡ get_or ys n y = c.index_mut.ensures.value ∙ get_or_default ys n _ y below in
    record {
      fits = q.fits;
      of = q.of;
      own = All-set Own ys n y (c.lend.ensures.of (arc_value q.board).table.shared.table_id q.processes (subst Own (sym is) (q.own n y below))) q.own;
      order = same_order ys n y y (c.lend.ensures.stays ∙ ap (λ (h : Home). h.process) is) ∙ q.order;
    }

pub returns-in_default-lend-clause-err : goal.returns-in_default-lend-clause-err
returns-in_default-lend-clause-err c =
    let q = c.args.self.now in
    let ys = q.homes.items in
    let n = c.args.process in
    let y = c.lend.new.self in
    let below : n < length ys = search rules in
    let is : (d : Home) → c.index_mut.result.now ≡ get_or ys n d = λ d. c.index_mut.ensures.value ∙ get_or_default ys n _ d below in
    let none = c.in_default-lend.ensures.none in (
      (λ d. subst (λ h. known_items h.end ≡ []) (is d) none.1),
      record { queue_is = refl; past = refl; homes = one_looked ys n y below (subst (λ h. HomeLooked h y) (is y) none.0) },
    )

pub invariant_of-result : goal.invariant_of-result
invariant_of-result c =
    let q = c.args.self.now in
    let ys = q.homes.items in
    let n = c.args.process in
    let pass = c.in-Some.pass in
    let below : n < length ys = search rules in
    let now = c.index_mut.result.now in
    let Own = IsHomeOf (arc_value q.board).table.shared.table_id q.processes in
    let is : now ≡ get_or ys n now = c.index_mut.ensures.value ∙ get_or_default ys n _ now below in
    let lends = c.in-Some.ensures.some in
    let same = c.in-Ok-try_clone.ensures in
    let of : IsOf (arc_value q.board).table.shared.table_id (arc_value q.board).key pass = subst (λ k. IsOf (arc_value q.board).table.shared.table_id k pass) q.fits.0 (lends.of (arc_value q.board).table.shared.table_id q.processes (subst Own (sym is) (q.own n now below))) in
    record {
      few = subst (λ x. x.key < 16384) (sym same) (subst (λ k. k < 16384) q.fits.0 q.fits.1);
      of = subst (λ x. IsOf x.table.shared.table_id x.key pass) (sym same) of;
      same = subst (λ (l : List Pass). IsSameAll l pass) (sym lends.through) (only (λ first. IsSame first pass) pass (refl, refl));
      room = lends.room;
    }

pub returns-clause-ok : goal.returns-clause-ok
returns-clause-ok c =
    let q = c.args.self.now in
    let ys = q.homes.items in
    let n = c.args.process in
    let y = c.lend.new.self in
    let pass = c.in-Some.pass in
    let below : n < length ys = search rules in
    let is : (d : Home) → c.index_mut.result.now ≡ get_or ys n d = λ d. c.index_mut.ensures.value ∙ get_or_default ys n _ d below in
    let lends = c.in-Some.ensures.some in
    let low : n < q.processes = omega (arith, below, as_many ys q.processes q.order) in
    record {
      seat_of = c.in-Ok-try_clone.ensures;
      process_is = lends.process ∙ (ap (λ (h : Home). h.process) (is y) ∙ process_at ys q.processes n y q.order low);
      came = λ d. subst (λ (h : Home). (rest : List Pass) × IsPrefix (known_items h.end) (pass ∷ rest)) (is d) lends.came;
      queue_is = refl;
      past = refl;
      others = λ k d other. get_or-set_other ys n k y d other;
    }
