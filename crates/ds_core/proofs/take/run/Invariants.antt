use Rattle.std.proofs.Common.{◌≡◌, ◌≤◌, take, length, vec_len}
use Rattle.std.specs.Vec.{vec_capacity}
use Rattle.ds_core.specs.Takes.{WorldRun}
use Rattle.ds_core.proofs.take.run.Given as goal

abbrev pub invariant-loop-event : goal.invariant-loop-event
invariant-loop-event l =
    WorldRun l.fn.world (take l.event-index l.events) l.replies.items l.world
    × (vec_len l.replies ≡ l.event-index)
    × (length l.events ≤ vec_capacity l.replies)
