use Rattle.std.proofs.Common.{ℕ, Bool, List, Option, ◌≡◌, ◌<◌, false, get_or, subst, sym, true}
use Rattle.std.specs.Prelude.{IfSome}
use Rattle.ds_explore_state.specs.States.{groups_of}
use Rattle.ds_explore_state.specs.Drawn.{AreDrawn}
use Rattle.ds_explore_state.specs.declared.closure.Drawing.{Drawing}
use Rattle.ds_explore_state.proofs.closure.draw_graph.Goals as goal

pub returns-then-are_marked-clause-graph : goal.returns-then-are_marked-clause-graph
returns-then-are_marked-clause-graph g c =
    let drawn = subst (λ (o : Option Drawing). IfSome o
    (λ drawing. AreDrawn c.args.found.states.now (groups_of c.args.found.touched.now) (g.E.Endings.numbered c.args.endings.now) c.args.found.allowed c.args.found.touched.now.places.items c.args.found.first.now drawing.edges.items drawing.marks.items)) c.in-Some.is c.in_ok-drawing.ensures.drawn in
    record {
      begins = c.in_ok-begins.ensures c.if-not-begins.false;
      drawn = λ number low. drawn.each number
          (subst (λ (l : List Bool). get_or l number false ≡ true) c.deref.ensures.value (c.are_marked.ensures c.if-are_marked.true number (subst (λ (n : ℕ). number < n) (sym c.len.ensures) low)));
      apart = drawn.apart;
    }
