-- What the run of a closed queue says of what its processes were answered.
use Rattle.std.specs.Arc.{arc_value}
use Rattle.pm_base.specs.Structures.{In}
use Rattle.pm_base.specs.declared.history.Deed.TheVariants as deed
use Rattle.pm_board.specs.Rule.{world_on}
use Rattle.pm_board.specs.declared.board.Seated.{Seated}
use Rattle.pq.specs.Queue.{queue}
use Rattle.pq.specs.Runs.{IsHeld, IsOrder, IsTrueOf}
use Rattle.pq.specs.declared.calls.Doing.{Doing}
use Rattle.pq.specs.declared.calls.Response.{Response}
use Rattle.pq_seats.specs.Queues.{IsClosed}
use Rattle.pq_seats.specs.Resting.{remembered, words_in}
use Rattle.pq_seats.specs.declared.queue.OpenQueue.{OpenQueue}
use Rattle.pq_seats.specs.declared.resting.RestingQueue.{RestingQueue}

-- no operation took effect twice, the words hold the queue, and whatever a process was answered at any time is true of it
abbrev pub ClosedQueuesTellTheTruth : Type 0
ClosedQueuesTellTheTruth = (q : OpenQueue) (c : RestingQueue) → (h : IsClosed q c)
    → IsOrder h.run.witness.hidden × IsHeld (world_on queue (arc_value q.board).key (words_in c) h.run.witness) × ((e : Seated Doing Response) (t : Response) → In (remembered c) e → In e.deeds.done (deed.Response t) → IsTrueOf h.run.witness.hidden t)
