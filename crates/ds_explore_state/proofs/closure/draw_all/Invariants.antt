use Rattle.ds_explore_state.specs.States.{groups_of}
use Rattle.ds_explore_state.specs.Closed.{AreKept}
use Rattle.ds_explore_state.specs.Drawn.{AreDrawn, KnowsCrashes}
use Rattle.ds_explore_state.specs.Following.{IsKept}
use Rattle.ds_explore_state.proofs.closure.draw_all.Given as goal

abbrev pub invariant-loop : goal.invariant-loop
invariant-loop g l = record {
  drawn : AreDrawn l.found.states.now (groups_of l.found.touched.now) (g.E.Endings.numbered l.endings) l.found.allowed l.found.touched.now.places.items l.found.first.now l.drawing.edges.items l.drawing.marks.items;
  knows : KnowsCrashes l.found.states.now (groups_of l.found.touched.now) (g.E.Endings.numbered l.endings) l.found.allowed l.found.touched.now.places.items l.found.first.now l.crashes;
  kept : IsKept (groups_of l.found.touched.now) l.found.first.now l.position;
  visits : AreKept (groups_of l.found.touched.now) l.found.first.now l.visits.items;
}
