use Rattle.std.proofs.Common.{refl, sym, subst, ap, ◌∙◌}
use Rattle.c_handles.specs.Handles.{content}
use Rattle.pq_c.specs.Answers.{ended_row}
use Rattle.pq_c.specs.Shared.{BeginsNot}
use Rattle.pq_c.proofs.HeldSteps.{begins_not}
use Rattle.pq_c.proofs.seat_calls.enqueue.Goals as goal

pub returns-in-Ok : goal.returns-in-Ok
returns-in-Ok c = content c.in-Seat.seat c.enqueue.new.self c.in-Seat.is refl (record {
  how = c.in-Ok.how;
  did = c.in-Ok.ensures.ok;
  row_is = c.of_ended.ensures ∙ ap (λ n. ended_row n c.in-Ok.how) c.next-number.ensures;
  queue_is = c.enqueue.ensures.queue;
})

pub returns-in-Err : goal.returns-in-Err
returns-in-Err c =
    let lacks = begins_not c.in-Seat.seat c.in-Err.fault c.in-Err.ensures.err.0 in
    content c.in-Seat.seat c.enqueue.new.self c.in-Seat.is refl (subst (BeginsNot c.in-Seat.seat) (sym c.of.ensures) lacks, c.in-Err.ensures.err.1)
