use Rattle.std.proofs.Common.{◌≡◌, map, take}
use Rattle.ds_explore_state.specs.States.{seat_of}
use Rattle.ds_explore_state.proofs.position.Position.copy.Given as goal

abbrev pub invariant-loop-process : goal.invariant-loop-process
invariant-loop-process l = map seat_of l.seats.items ≡ map seat_of (take l.process l.self.seats.items)
