use Rattle.std.proofs.Common.{Option, rules, subst}
use Rattle.std.specs.Prelude.{IfSome}
use Rattle.ds_explore_state.specs.declared.position.Position.{Position}
use Rattle.ds_explore_state.specs.States.{groups_of}
use Rattle.ds_explore_state.specs.Following.{IsKept}
use Rattle.ds_explore_state.proofs.closure.Visit.next.Goals as goal

pub returns-then-led-clause-next : goal.returns-then-led-clause-next
returns-then-led-clause-next c = λ first kept known. (
    let copy : IsKept (groups_of c.args.touched.now) first c.in-Some-2.after =
    subst (λ (o : Option Position). IfSome o (IsKept (groups_of c.args.touched.now) first)) c.in-Some-2.is (c.in_ok-after.ensures.copy (groups_of c.args.touched.now) first (c.loop.invariant first kept)) in
    c.in_ok-led.ensures.follows c.if-led.true first (copy known))
