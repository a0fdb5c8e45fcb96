use Rattle.std.proofs.Common.{refl, sym}
use Rattle.pq_c.specs.Queues.{memory}
use Rattle.pq_c.proofs.queue_calls.reopen.Goals as goal

pub returns-in-Ok-clause-ok : goal.returns-in-Ok-clause-ok
returns-in-Ok-clause-ok c = record {
  closed = c.in-Closed.closed;
  opened = c.in-Ok.queue;
  was = sym c.in-Closed.ensures.value;
  is = refl;
  processes_are = c.in-Ok.ensures.key;
  words = c.in-Ok.ensures.words;
  past = c.in-Ok.ensures.past;
  fresh = c.in-Ok.ensures.fresh;
}

pub returns-in-Err-clause-err : goal.returns-in-Err-clause-err
returns-in-Err-clause-err c = memory c.in-Closed.closed c.in-Err.closed (sym c.in-Closed.ensures.value) refl c.in-Err.ensures.back refl
