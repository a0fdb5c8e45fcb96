use Rattle.std.proofs.Common.{refl, ap, ◌∙◌}
use Rattle.c_handles.specs.Handles.{content}
use Rattle.pq_c.specs.Answers.{recovery_row}
use Rattle.pq_c.proofs.seat_calls.recover.Goals as goal

pub returns : goal.returns
returns c = content c.in-Seat.seat c.recover.new.self c.in-Seat.is refl (record {
  how = c.recover.result;
  did = c.recover.ensures.made;
  row_is = c.of_recovery.ensures ∙ ap (λ p. recovery_row p c.recover.result) c.process-process.ensures;
  queue_is = c.recover.ensures.queue;
})
