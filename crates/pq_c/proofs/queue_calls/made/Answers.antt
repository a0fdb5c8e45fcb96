use Rattle.pq_c.proofs.queue_calls.made.Goals as goal

pub returns-in-Ok-new-clause-ok : goal.returns-in-Ok-new-clause-ok
returns-in-Ok-new-clause-ok c = record {
  opened = c.in-Ok.queue;
  is = c.in-Ok-new.ensures.ok;
  processes_are = c.in-Ok.ensures.key;
  words = c.in-Ok.ensures.words;
  fresh = c.in-Ok.ensures.fresh.0;
  past = c.in-Ok.ensures.fresh.1;
}
