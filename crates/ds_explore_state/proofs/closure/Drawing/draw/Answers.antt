use Rattle.std.proofs.Common.{ℕ, Bool, List, Option, ◌≡◌, ◌<◌, ◌++◌, ◌∙◌, ap, false, get_or, length, refl, subst}
use Rattle.std.specs.Global.{Vec}
use Rattle.std.specs.Prelude.{IfSome}
use Rattle.ds_paths.specs.declared.graph.Edge.{Edge}
use Rattle.ds_explore_state.specs.States.{groups_of}
use Rattle.ds_explore_state.specs.Closed.{HasNumber}
use Rattle.ds_explore_state.specs.Drawn.{AreChoices}
use Rattle.ds_explore_state.specs.declared.choices.Choice.{Choice}
use Rattle.ds_explore_state.proofs.Drawing.{drawn_more}
use Rattle.ds_explore_state.proofs.closure.Drawing.draw.Goals as goal

pub returns-clause-drawn : goal.returns-clause-drawn
returns-clause-drawn g c =
    drawn_more c.args.found.states.now (groups_of c.args.found.touched.now) (g.E.Endings.numbered c.args.endings.now) c.args.found.allowed c.args.found.touched.now.places.items c.args.found.first.now c.args.self.now.edges.items c.in-Some-2.edges.items
    c.extend_from_slice.new.self.items c.args.self.now.marks.items _ c.in-Some.number c.args.position.now c.requires.drawn
    (subst (λ (l : List Bool). get_or l c.in-Some.number false ≡ false) c.deref.ensures.value (c.is_new.ensures.unmarked c.if-not-is_new.false))
    (subst (λ (l : List Bool). c.in-Some.number < length l) c.deref.ensures.value (c.is_new.ensures.there c.if-not-is_new.false)) refl
    (c.in_ok-extend_from_slice.ensures.items ∙ ap (λ (l : List (Edge Choice)). c.args.self.now.edges.items ++ l) c.deref-2.ensures.value)
    (subst
    (λ (o : Option (Vec (Edge Choice))). IfSome o (λ edges. AreChoices c.args.found.states.now (groups_of c.args.found.touched.now) (g.E.Endings.numbered c.args.endings.now) c.args.found.allowed c.args.found.touched.now.places.items c.args.found.first.now c.args.position.now c.in-Some.number edges.items))
    c.in-Some-2.is c.in_ok-edges.ensures.choices)
    (subst (λ (o : Option ℕ). IfSome o (HasNumber c.args.found.states.now (groups_of c.args.found.touched.now) c.args.position.now)) c.in-Some.is c.in_ok-number.ensures) c.requires.kept
