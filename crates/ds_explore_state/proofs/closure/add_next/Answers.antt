use Rattle.std.proofs.Common.{ℕ, Option, subst}
use Rattle.std.specs.Prelude.{IfSome}
use Rattle.ds_explore_state.specs.States.{groups_of}
use Rattle.ds_explore_state.specs.Closed.{LeadsTo}
use Rattle.ds_explore_state.proofs.Drawing.{adds_next}
use Rattle.ds_explore_state.proofs.closure.add_next.Goals as goal

pub returns : goal.returns
returns c = λ yes.
    adds_next c.args.found.states.now (groups_of c.args.found.touched.now) c.args.found.allowed c.args.found.touched.now.places.items c.args.position.now c.args.number c.args.by c.in-Some.to c.args.edges.now.items c.push.new.self.items c.requires
    (c.can_come.ensures.0 c.if-not-can_come.false)
    (subst (λ (o : Option ℕ). IfSome o (LeadsTo c.args.found.states.now (groups_of c.args.found.touched.now) c.args.position.now c.args.by)) c.in-Some.is c.in_ok-to.ensures) c.in_ok-push.ensures.items
