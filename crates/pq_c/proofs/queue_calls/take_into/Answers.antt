use Rattle.std.proofs.Common.{refl}
use Rattle.pq_c.specs.Queues.{fault}
use Rattle.pq_c.proofs.queue_calls.take_into.Goals as goal

pub returns-in-Err-clause-err : goal.returns-in-Err-clause-err
returns-in-Err-clause-err c = fault c.in-Queue.queue c.take.new.self c.in-Err.fault c.in-Queue.is refl c.in-Err.ensures.err.0 c.in-Err.ensures.err.1 c.of.ensures
