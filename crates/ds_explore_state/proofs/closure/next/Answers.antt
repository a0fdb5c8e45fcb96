use Rattle.std.proofs.Common.{List, [], ◌∷◌, ◌++◌, Option, subst, sym}
use Rattle.std.specs.Prelude.{All, IfSome}
use Rattle.std.proofs.lemmas.List.Elements.{All-pop, All-push}
use Rattle.ds_explore_state.specs.declared.closure.Visit.{Visit}
use Rattle.ds_explore_state.specs.declared.position.Position.{Position}
use Rattle.ds_explore_state.specs.States.{groups_of}
use Rattle.ds_explore_state.specs.Following.{IsKept}
use Rattle.ds_explore_state.proofs.closure.next.Goals as goal

pub returns-in-Some-2-clause-next : goal.returns-in-Some-2-clause-next
returns-in-Some-2-clause-next c = λ first kept. (
    let popped = All-pop (λ (visit : Visit). IfSome visit.position (IsKept (groups_of c.args.touched.now) first)) c.loop.visits.items c.pop.new.self.items c.pop.result c.pop.ensures.items (c.loop.invariant first kept) in
    let visit = subst (λ (o : Option Visit). IfSome o (λ (visit : Visit). IfSome visit.position (IsKept (groups_of c.args.touched.now) first))) c.in-Some.is popped.1 in
    subst (λ (o : Option Position). IfSome o (IsKept (groups_of c.args.touched.now) first)) c.in-Some-2.is (c.in_ok-after.ensures.next first visit))

pub returns-in-Some-2-clause-kept : goal.returns-in-Some-2-clause-kept
returns-in-Some-2-clause-kept c = λ first kept. (
    let popped = All-pop (λ (visit : Visit). IfSome visit.position (IsKept (groups_of c.args.touched.now) first)) c.loop.visits.items c.pop.new.self.items c.pop.result c.pop.ensures.items (c.loop.invariant first kept) in
    let visit = subst (λ (o : Option Visit). IfSome o (λ (visit : Visit). IfSome visit.position (IsKept (groups_of c.args.touched.now) first))) c.in-Some.is popped.1 in
    subst (λ (l : List Visit). All (λ (visit : Visit). IfSome visit.position (IsKept (groups_of c.args.touched.now) first)) l) (sym c.in_ok-push.ensures.items)
    (All-push (λ (visit : Visit). IfSome visit.position (IsKept (groups_of c.args.touched.now) first)) c.pop.new.self.items c.next.new.self popped.0 (c.in_ok-after.ensures.kept first visit)))

pub loop-preserved : goal.loop-preserved
loop-preserved c = λ first kept.
    (All-pop (λ (visit : Visit). IfSome visit.position (IsKept (groups_of c.args.touched.now) first)) c.loop.visits.items c.pop.new.self.items c.pop.result c.pop.ensures.items (c.loop.invariant first kept)).0
