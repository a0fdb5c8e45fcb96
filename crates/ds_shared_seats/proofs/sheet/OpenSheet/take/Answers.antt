use Rattle.std.proofs.Common.{rules, ◌≡◌, ◌<◌, ◌≤◌, [], ◌∷◌, refl, sym, ap, subst, ◌∙◌, arith, length, get_or, List}
use Rattle.std.proofs.lemmas.List.{get_or-set_other, get_or_default}
use Rattle.std.proofs.lemmas.List.Elements.{All-set}
use Rattle.std.specs.Arc.{arc_value}
use mathlib.Core.List.{IsPrefix}
use Rattle.rtrb.specs.Ring.{known_items}
use Rattle.ds_shared.specs.Answers.{IsOf}
use Rattle.ds_shared.specs.declared.pass.Pass.{Pass}
use Rattle.ds_shared.specs.declared.sheet.SharedSheet.{SharedSheet}
use Rattle.ds_shared_seats.specs.Homes.{HomeLooked, IsHomeOf}
use Rattle.ds_shared_seats.specs.Turns.{IsSame, IsSameAll}
use Rattle.ds_shared_seats.specs.declared.ring.Home.{Home}
use Rattle.ds_shared_seats.specs.declared.sheet.OpenSheet.{OpenSheet}
use Rattle.ds_shared_seats.proofs.Looking.{as_many, process_at, as_they_are, one_looked, same_order}
use Rattle.ds_shared_seats.proofs.Moving.{only}
use Rattle.ds_shared_seats.proofs.sheet.OpenSheet.take.Goals as goal

many : (s : OpenSheet) → length s.homes.items ≡ (arc_value s.sheet).board.layout.processes
many s = as_many s.homes.items s.layout.processes s.order ∙ ap (λ l. l.processes) s.fits

pub returns-then-process-len-clause-err : goal.returns-then-process-len-clause-err
returns-then-process-len-clause-err c =
    let s = c.args.self.now in
    let all = many s in
    let over : length s.homes.items ≤ c.args.process = search rules in
    (omega (arith, all, over), record { sheet = refl; past = refl; homes = as_they_are s.homes.items })

pub returns-in_default-clause-err : goal.returns-in_default-clause-err
returns-in_default-clause-err c =
    let s = c.args.self.now in
    let all = many s in
    let below : c.args.process < length s.homes.items = search rules in
    (omega (arith, all, below), record { sheet = refl; past = refl; homes = as_they_are s.homes.items })

pub returns-in_default-try_clone-clause-err : goal.returns-in_default-try_clone-clause-err
returns-in_default-try_clone-clause-err c =
    let s = c.args.self.now in
    let all = many s in
    let below : c.args.process < length s.homes.items = search rules in
    (omega (arith, all, below), record { sheet = refl; past = refl; homes = as_they_are s.homes.items })

pub invariant_of-self : goal.invariant_of-self
invariant_of-self c =
    let s = c.args.self.now in
    let ys = s.homes.items in
    let n = c.args.process in
    let y = c.lend.new.self in
    let below : n < length ys = search rules in
    let is : c.index_mut.result.now ≡ get_or ys n y = c.index_mut.ensures.value ∙ get_or_default ys n _ y below in
    record {
      fits = s.fits;
      of = s.of;
      own = All-set (IsHomeOf (arc_value s.sheet)) ys n y (c.lend.ensures.of (arc_value s.sheet) (subst (IsHomeOf (arc_value s.sheet)) (sym is) (s.own n y below))) s.own;
      order = same_order ys n y y (c.lend.ensures.stays ∙ ap (λ (h : Home). h.process) is) ∙ s.order;
    }

pub returns-in_default-lend-clause-err : goal.returns-in_default-lend-clause-err
returns-in_default-lend-clause-err c =
    let s = c.args.self.now in
    let ys = s.homes.items in
    let n = c.args.process in
    let y = c.lend.new.self in
    let below : n < length ys = search rules in
    let is : (d : Home) → c.index_mut.result.now ≡ get_or ys n d = λ d. c.index_mut.ensures.value ∙ get_or_default ys n _ d below in
    let none = c.in_default-lend.ensures.none in (
      (λ d. subst (λ h. known_items h.end ≡ []) (is d) none.1),
      record { sheet = refl; past = refl; homes = one_looked ys n y below (subst (λ h. HomeLooked h y) (is y) none.0) },
    )

pub invariant_of-result : goal.invariant_of-result
invariant_of-result c =
    let s = c.args.self.now in
    let ys = s.homes.items in
    let n = c.args.process in
    let pass = c.in-Some.pass in
    let below : n < length ys = search rules in
    let now = c.index_mut.result.now in
    let is : now ≡ get_or ys n now = c.index_mut.ensures.value ∙ get_or_default ys n _ now below in
    let lends = c.in-Some.ensures.some in
    let same = c.in-Ok-try_clone.ensures in
    record {
      fits = s.fits ∙ ap (λ (x : SharedSheet). x.board.layout) (sym same);
      of = subst (λ x. IsOf x pass) (sym same) (lends.of (arc_value s.sheet) (subst (IsHomeOf (arc_value s.sheet)) (sym is) (s.own n now below)));
      same = subst (λ (l : List Pass). IsSameAll l pass) (sym lends.through) (only (λ first. IsSame first pass) pass (refl, refl));
      room = lends.room;
    }

pub returns-clause-ok : goal.returns-clause-ok
returns-clause-ok c =
    let s = c.args.self.now in
    let ys = s.homes.items in
    let n = c.args.process in
    let y = c.lend.new.self in
    let pass = c.in-Some.pass in
    let below : n < length ys = search rules in
    let is : (d : Home) → c.index_mut.result.now ≡ get_or ys n d = λ d. c.index_mut.ensures.value ∙ get_or_default ys n _ d below in
    let lends = c.in-Some.ensures.some in
    let low : n < s.layout.processes = omega (arith, below, as_many ys s.layout.processes s.order) in
    record {
      seat_of = c.in-Ok-try_clone.ensures;
      process_is = lends.process ∙ (ap (λ (h : Home). h.process) (is y) ∙ process_at ys s.layout.processes n y s.order low);
      last = c.new.ensures.items;
      came = λ d. subst (λ (h : Home). (rest : List Pass) × IsPrefix (known_items h.end) (pass ∷ rest)) (is d) lends.came;
      sheet = refl;
      past = refl;
      others = λ k d other. get_or-set_other ys n k y d other;
    }
