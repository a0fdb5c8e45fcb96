use Rattle.std.proofs.Common.{refl, sym, ◌∙◌}
use Rattle.c_handles.specs.Handles.{other}
use Rattle.c_handles.proofs.Carried.{let_go}
use Rattle.pq_c.proofs.queues.pq_c_queue_free.Goals as goal

pub returns-in-Queue : goal.returns-in-Queue
returns-in-Queue c = let_go c.in-Queue.field-0 c.in-Some.ensures.some.0 (sym c.deref.ensures ∙ c.in-Queue.is) c.in-Some.ensures.some.1 refl

pub returns : goal.returns
returns c = other c.in-Some.held.value c.in-Some.ensures.some.0 (λ x e. c.in_default-deref.not-Queue x (c.deref.ensures ∙ e)) c.of.ensures c.number-2.ensures
