use Rattle.std.proofs.Common.{ℕ, ◌≡◌, [], map}
use Rattle.std.specs.Prelude.{slice_index_or}
use Rattle.ds_explore_state.specs.Buffers.{HasEmptyBuffers}
use Rattle.ds_explore_state.specs.Orders.{no_seat}
use Rattle.ds_explore_state.specs.States.{seat_of}
use Rattle.ds_explore_state.proofs.position.Position.new.Given as goal

abbrev pub invariant-loop-process : goal.invariant-loop-process
invariant-loop-process l = HasEmptyBuffers l.fn.world → (q : ℕ) → (slice_index_or (map seat_of l.seats.items) q no_seat).buffer ≡ []
