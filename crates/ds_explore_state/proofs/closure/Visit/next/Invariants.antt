use Rattle.std.specs.Prelude.{IfSome}
use Rattle.ds_explore_state.specs.declared.position.Position.{Position}
use Rattle.ds_explore_state.specs.States.{groups_of}
use Rattle.ds_explore_state.specs.Following.{IsKept}
use Rattle.ds_explore_state.proofs.closure.Visit.next.Given as goal

abbrev pub invariant-loop : goal.invariant-loop
invariant-loop l = (first : Position) → IfSome l.fn.self.position (IsKept (groups_of l.touched) first) → IfSome l.self.position (IsKept (groups_of l.touched) first)
