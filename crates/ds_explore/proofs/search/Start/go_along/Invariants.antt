use Rattle.std.proofs.Common.{List}
use Rattle.ds_explore_state.specs.declared.position.Move.{Move}
use Rattle.ds_explore.specs.Starts.{IsOrderTo}
use Rattle.ds_explore.proofs.Leading.{GoesOnBy}
use Rattle.ds_explore.proofs.search.Start.go_along.Given as goal

abbrev pub invariant-loop-by : goal.invariant-loop-by
invariant-loop-by l = (moves : List Move) → IsOrderTo l.self moves l.fn.position → GoesOnBy l.self moves l.by-index l.position
