use Rattle.std.proofs.Common.{List, Option, ◌≡◌, subst}
use Rattle.std.specs.Global.{Vec}
use Rattle.std.specs.Prelude.{◌≢◌, AllPairs, IfSome}
use Rattle.ds_paths.specs.declared.graph.Edge.{Edge}
use Rattle.ds_explore_state.specs.States.{groups_of}
use Rattle.ds_explore_state.specs.Drawn.{AreNext}
use Rattle.ds_explore_state.specs.declared.choices.Choice.{Choice}
use Rattle.ds_explore_state.proofs.Drawing.{choices_of}
use Rattle.ds_explore_state.proofs.closure.all_choices.Goals as goal

pub returns-clause-choices : goal.returns-clause-choices
returns-clause-choices g c =
    choices_of c.args.found.states.now (groups_of c.args.found.touched.now) (g.E.Endings.numbered c.args.endings.now) c.args.found.allowed c.args.found.touched.now.places.items c.args.found.first.now c.args.position.now c.args.number c.in-Some.edges.items
    c.add_rest.new.edges.items c.add_crash.new.edges.items
    (subst (λ (o : Option (Vec (Edge Choice))). IfSome o (λ edges. AreNext c.args.found.states.now (groups_of c.args.found.touched.now) c.args.found.allowed c.args.found.touched.now.places.items c.args.position.now c.args.number edges.items)) c.in-Some.is c.in_ok-edges.ensures)
    (c.in_ok-rests.ensures c.if-not-rests.false) (c.in_ok-crashed.ensures.adds c.if-not-crashed.false)
    (subst (λ (l : List (Edge Choice)). AllPairs (λ a b. a.by ≢ b.by) l) c.deref.ensures.value (c.are_apart.ensures c.if-not-are_apart.false))
