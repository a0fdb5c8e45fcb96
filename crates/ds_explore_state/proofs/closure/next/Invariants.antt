use Rattle.ds_explore_state.specs.declared.position.Position.{Position}
use Rattle.ds_explore_state.specs.States.{groups_of}
use Rattle.ds_explore_state.specs.Closed.{AreKept}
use Rattle.ds_explore_state.proofs.closure.next.Given as goal

abbrev pub invariant-loop : goal.invariant-loop
invariant-loop l = (first : Position) → AreKept (groups_of l.touched) first l.fn.visits.items → AreKept (groups_of l.touched) first l.visits.items
