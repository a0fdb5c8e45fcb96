use Rattle.std.proofs.Common.{refl, sym}
use Rattle.pq_c.specs.Queues.{fault}
use Rattle.pq_c.proofs.queue_calls.close.Goals as goal

pub returns-in-Ok-clause-ok : goal.returns-in-Ok-clause-ok
returns-in-Ok-clause-ok c = record {
  opened = c.in-Queue.queue;
  closed = c.in-Ok.closed;
  was = sym c.in-Queue.ensures.value;
  is = refl;
  closes = c.in-Ok.ensures.ok;
}

pub returns-in-Err-clause-err : goal.returns-in-Err-clause-err
returns-in-Err-clause-err c = fault c.in-Queue.queue c.in-Err.queue c.in-Err.fault (sym c.in-Queue.ensures.value) refl c.in-Err.ensures.err.1 c.in-Err.ensures.err.0 c.of.ensures
